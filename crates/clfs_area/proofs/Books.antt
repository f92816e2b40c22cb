-- What one own entry makes of an area's books.
use Rattle.std.proofs.Common.{◌≡◌, ℕ, suc, ◌+◌, ◌-◌, ◌^◌, ◌<◌, ◌≤◌, Bool, true, false, refl, ap, ◌∙◌, List, [], ◌∷◌, ◌++◌, length, arith, eq-eqb}
use Rattle.std.specs.Prelude.{Option, Some, if◌then◌else◌, ◌==◌}
use Rattle.clfs_lsn.specs.Size.{own}
use Rattle.clfs_turn.specs.Seats.{IsSameSeat}
use Rattle.clfs_model.specs.declared.call.Call.{Call}
use Rattle.clfs_model.specs.declared.call.Call.TheVariants as calls
use Rattle.clfs_model.specs.declared.call.Draft.{Draft}
use Rattle.clfs_model.specs.declared.journal.Entry.{Entry}
use Rattle.clfs_model.specs.declared.refusal.Refusal.{Refusal}
use Rattle.clfs_model.specs.declared.reply.Reply.{Reply}
use Rattle.clfs_model.specs.declared.reply.Reply.TheVariants as replies
use Rattle.clfs_model.specs.Journals.{held_after, held_through, held_in, held_by, mine}
use Rattle.clfs_laws.specs.Rows.{AreaRow, row_in, row_after, row_through}
use Rattle.clfs_shared.specs.declared.opening.Opening.{Opening}
use Rattle.clfs_shared.specs.Journal.{entry_of, is_out_of_memory}
use Rattle.clfs_shared.specs.Sessions.{SessionState, IsStepped, own_entries}
use Rattle.clfs_area.specs.Areas.{AreaBooks, IsKept, books_of, held_by_own, placed_after, placed_by_own, placed_through, row_by_own, row_of_books}
use Rattle.clfs_area.specs.Calls.{HasAsked, held_append}
use Rattle.clfs_area.proofs.Replies.{by_memory}

-- ---- one entry more at the end

held_more : (number held : ℕ) (es : List Entry) (e : Entry) → held_through number held (es ++ e ∷ []) ≡ held_after number (held_through number held es) e.call e.reply
held_more number held [] e = refl
held_more number held (x ∷ es) e = held_more number (held_after number held x.call x.reply) es e

row_more : (number : ℕ) (row : Option AreaRow) (es : List Entry) (e : Entry) → row_through number row (es ++ e ∷ []) ≡ row_after number (row_through number row es) e.call e.reply
row_more number row [] e = refl
row_more number row (x ∷ es) e = row_more number (row_after number row x.call x.reply) es e

placed_more : (number placed : ℕ) (es : List Entry) (e : Entry) → placed_through number placed (es ++ e ∷ []) ≡ placed_after number (placed_through number placed es) e.call e.reply
placed_more number placed [] e = refl
placed_more number placed (x ∷ es) e = placed_more number (placed_after number placed x.call x.reply) es e

-- ---- what the own entries of a session say

-- the same session, which has these own entries
record Says (s t : SessionState) (number : ℕ) (es : List Entry) : Type 0 where
  row : row_by_own t number ≡ row_through number (row_in s.opening.state s.client number) es
  held : held_by_own t number ≡ held_through number (held_in s.opening.state s.client number) es
  placed : placed_by_own t number ≡ placed_through number 0 es

says : (s t : SessionState) (number : ℕ) (es : List Entry) → IsSameSeat s t → own_entries t ≡ es → Says s t number es
says s t number es same is = record {
  row = ap (λ (o : Opening). row_through number (row_in o.state t.client number) (own_entries t)) same.opening
      ∙ (ap (λ (c : ℕ). row_through number (row_in s.opening.state c number) (own_entries t)) same.client
      ∙ ap (λ (z : List Entry). row_through number (row_in s.opening.state s.client number) z) is);
  held = ap (λ (o : Opening). held_by o.state t.client (own_entries t) number) same.opening
      ∙ (ap (λ (c : ℕ). held_by s.opening.state c (own_entries t) number) same.client
      ∙ ap (λ (z : List Entry). held_by s.opening.state s.client z number) is);
  placed = ap (λ (z : List Entry). placed_through number 0 z) is;
}

-- What a session that has seen one own entry more says, and one that has seen no more.
pub record SaysAfter (s t : SessionState) (number : ℕ) (call : Call) (reply : Reply) : Type 0 where
  pub row : row_by_own t number ≡ row_after number (row_by_own s number) call reply
  pub held : held_by_own t number ≡ held_after number (held_by_own s number) call reply
  pub placed : placed_by_own t number ≡ placed_after number (placed_by_own s number) call reply

pub says_after : (s t : SessionState) (number : ℕ) (call : Call) (reply : Reply) → IsSameSeat s t → IsStepped s t call reply → SaysAfter s t number call reply
says_after s t number call reply same z =
    let e : Entry = entry_of s.client (length (own_entries s) + 1) call reply in
    let says_now : Says s t number (own_entries s ++ e ∷ []) = says s t number (own_entries s ++ e ∷ []) same z.grew in record {
      row = says_now.row ∙ row_more number (row_in s.opening.state s.client number) (own_entries s) e;
      held = says_now.held ∙ held_more number (held_in s.opening.state s.client number) (own_entries s) e;
      placed = says_now.placed ∙ placed_more number 0 (own_entries s) e;
    }

unseen : (s t : SessionState) → IsSameSeat s t → t.seen ≡ s.seen → own_entries t ≡ own_entries s
unseen s t same is = ap (λ (c : ℕ). mine t.seen c) same.client ∙ ap (λ (z : List Entry). mine z s.client) is

-- ---- areas that are kept

-- an entry that leaves what the own entries say
pub record Leaves (number : ℕ) (call : Call) (reply : Reply) : Type 0 where
  pub row : (row : Option AreaRow) → row_after number row call reply ≡ row
  pub held : (held : ℕ) → held_after number held call reply ≡ held
  pub placed : (placed : ℕ) → placed_after number placed call reply ≡ placed

-- after a refusal, also one for memory
pub kept_refused : (a : AreaBooks) (t : SessionState) (call : Call) (given : Refusal) → Leaves a.number call (replies.Refused given) → IsSameSeat a.session t
    → HasAsked a.session t call (replies.Refused given) → IsKept a → IsKept (record a { session = t })
kept_refused a t call given leaves same asked k = by_memory (is_out_of_memory (replies.Refused given)) (IsKept (record a { session = t }))
    (λ out. let s = says a.session t a.number (own_entries a.session) same (unseen a.session t same (asked.none out)) in record {
      row = s.row ∙ k.row;
      held = s.held ∙ k.held;
      placed = s.placed ∙ k.placed;
    })
    (λ off. let s = says_after a.session t a.number call (replies.Refused given) same (asked.step off) in record {
      row = s.row ∙ (leaves.row (row_by_own a.session a.number) ∙ k.row);
      held = s.held ∙ (leaves.held (held_by_own a.session a.number) ∙ k.held);
      placed = s.placed ∙ (leaves.placed (placed_by_own a.session a.number) ∙ k.placed);
    })

-- after an append that was answered with an LSN
pub kept_placed : (a : AreaBooks) (t : SessionState) (draft : Draft) (lsn left : ℕ) → left + own (length draft.bytes) ≡ a.sectors → IsSameSeat a.session t
    → IsStepped a.session t (held_append a.number draft) (replies.Placed lsn) → IsKept a
    → IsKept (record a { session = t; sectors = left; records = a.records + 1 })
kept_placed a t draft lsn left enough same z k =
    let n = own (length draft.bytes) in
    let s = says_after a.session t a.number (held_append a.number draft) (replies.Placed lsn) same z in
    let here : (a.number == a.number) ≡ true = eq-eqb a.number a.number refl in
    let less : a.sectors - n + 0 ≡ left = omega arith in record {
      row = s.row ∙ (ap (λ (r : Option AreaRow). row_after a.number r (held_append a.number draft) (replies.Placed lsn)) k.row
          ∙ (ap (λ (b : Bool). if b then Some (record (row_of_books a) { held = a.sectors - n + 0 }) else Some (row_of_books a)) here
          ∙ ap (λ (h : ℕ). Some (record (row_of_books a) { held = h })) less));
      held = s.held ∙ (ap (λ (h : ℕ). held_after a.number h (held_append a.number draft) (replies.Placed lsn)) k.held
          ∙ (ap (λ (b : Bool). if b then a.sectors - n + 0 else a.sectors) here ∙ less));
      placed = s.placed ∙ (ap (λ (p : ℕ). placed_after a.number p (held_append a.number draft) (replies.Placed lsn)) k.placed
          ∙ ap (λ (b : Bool). if b then a.records + 1 else a.records) here);
    }

-- after a reservation that was answered with what the area holds
pub kept_reserved : (a : AreaBooks) (t : SessionState) (sizes : List ℕ) (held : ℕ) → IsSameSeat a.session t
    → IsStepped a.session t (calls.Reserve a.number sizes) (replies.Held held) → IsKept a → IsKept (record a { session = t; sectors = held })
kept_reserved a t sizes held same z k =
    let s = says_after a.session t a.number (calls.Reserve a.number sizes) (replies.Held held) same z in
    let here : (a.number == a.number) ≡ true = eq-eqb a.number a.number refl in record {
      row = s.row ∙ (ap (λ (r : Option AreaRow). row_after a.number r (calls.Reserve a.number sizes) (replies.Held held)) k.row
          ∙ ap (λ (b : Bool). if b then Some (record (row_of_books a) { held = held }) else Some (row_of_books a)) here);
      held = s.held ∙ (ap (λ (h : ℕ). held_after a.number h (calls.Reserve a.number sizes) (replies.Held held)) k.held
          ∙ ap (λ (b : Bool). if b then held else a.sectors) here);
      placed = s.placed ∙ k.placed;
    }

-- and after a release
pub kept_released : (a : AreaBooks) (t : SessionState) (sectors held : ℕ) → IsSameSeat a.session t
    → IsStepped a.session t (calls.Release a.number sectors) (replies.Held held) → IsKept a → IsKept (record a { session = t; sectors = held })
kept_released a t sectors held same z k =
    let s = says_after a.session t a.number (calls.Release a.number sectors) (replies.Held held) same z in
    let here : (a.number == a.number) ≡ true = eq-eqb a.number a.number refl in record {
      row = s.row ∙ (ap (λ (r : Option AreaRow). row_after a.number r (calls.Release a.number sectors) (replies.Held held)) k.row
          ∙ ap (λ (b : Bool). if b then Some (record (row_of_books a) { held = held }) else Some (row_of_books a)) here);
      held = s.held ∙ (ap (λ (h : ℕ). held_after a.number h (calls.Release a.number sectors) (replies.Held held)) k.held
          ∙ ap (λ (b : Bool). if b then held else a.sectors) here);
      placed = s.placed ∙ k.placed;
    }

-- an area that was just made
pub kept_made : (s t : SessionState) (number stream largest reads : ℕ) → IsSameSeat s t
    → IsStepped s t (calls.CreateArea stream largest reads) (replies.Area number) → IsKept (books_of t number stream largest reads 0 0)
kept_made s t number stream largest reads same z =
    let after = says_after s t number (calls.CreateArea stream largest reads) (replies.Area number) same z in
    let here : (number == number) ≡ true = eq-eqb number number refl in
    let made : AreaRow = record { stream = stream; largest = largest; reads = reads; held = 0 } in record {
      row = after.row ∙ ap (λ (b : Bool). if b then Some made else row_by_own s number) here;
      held = after.held ∙ ap (λ (b : Bool). if b then 0 else held_by_own s number) here;
      placed = after.placed ∙ ap (λ (b : Bool). if b then 0 else placed_by_own s number) here;
    }

-- ---- the count of records fits

if_le : (b : Bool) (x y m : ℕ) → x ≤ m → y ≤ m → (if b then x else y) ≤ m
if_le true x y m a b = a
if_le false x y m a b = b

placed_rises : (number placed : ℕ) (call : Call) (reply : Reply) → placed_after number placed call reply ≤ placed + 1
placed_rises number placed (calls.CreateArea stream largest reads) (replies.Area given) = if_le (given == number) 0 placed (placed + 1) (omega arith) (omega arith)
placed_rises number placed (calls.CreateArea stream largest reads) _ = omega arith
placed_rises number placed (calls.Append given draft reserved sizes) (replies.Placed lsn) = if_le (given == number) (placed + 1) placed (placed + 1) (omega arith) (omega arith)
placed_rises number placed (calls.Append given draft reserved sizes) _ = omega arith
placed_rises number placed _ reply = omega arith

-- no more appends were placed than there are entries
placed_few : (number placed : ℕ) (es : List Entry) → placed_through number placed es ≤ placed + length es
placed_few number placed [] = omega arith
placed_few number placed (e ∷ es) =
    let step = placed_rises number placed e.call e.reply in
    let rest = placed_few number (placed_after number placed e.call e.reply) es in
    omega (arith, step, rest)

if_longer : (b : Bool) (e : Entry) (xs : List Entry) (n : ℕ) → length xs ≤ n → length (if b then e ∷ xs else xs) ≤ suc n
if_longer true e xs n few = omega arith
if_longer false e xs n few = omega arith

own_few : (client : ℕ) (es : List Entry) → length (mine es client) ≤ length es
own_few client [] = omega arith
own_few client (e ∷ es) = let rest = own_few client es in if_longer (e.client == client) e (mine es client) (length es) rest

records_fit : (a : AreaBooks) → IsKept a → length a.session.seen < 2 ^ 64 → a.records < 2 ^ 64
records_fit a k fits =
    let few = placed_few a.number 0 (own_entries a.session) in
    let fewer = own_few a.session.client a.session.seen in
    let is = k.placed in
    omega (arith, few, fewer, is, fits)

-- so does the count after one append more
pub one_more_fits : (a : AreaBooks) (t : SessionState) (draft : Draft) (lsn left : ℕ) → left + own (length draft.bytes) ≡ a.sectors → IsSameSeat a.session t
    → IsStepped a.session t (held_append a.number draft) (replies.Placed lsn) → IsKept a → length t.seen < 2 ^ 64 → a.records + 1 < 2 ^ 64
one_more_fits a t draft lsn left enough same z k fits =
    records_fit (record a { session = t; sectors = left; records = a.records + 1 }) (kept_placed a t draft lsn left enough same z k) fits
