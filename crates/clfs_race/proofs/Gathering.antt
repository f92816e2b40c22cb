-- The calls of lines, gathered client by client.
use Rattle.clfs_race.proofs.Words.{◌≡◌, ℕ, zero, suc, ◌<◌, List, [], ◌∷◌, ◌++◌, length, Bool, true, false, refl, sym, ap, subst, ◌∙◌, Some, None, arith, inl}
use Rattle.clfs_race.proofs.Words.{inr, slice_set, Option, ◌==◌, ◌&&◌, if◌then◌else◌, cases_Bool, eqb-true, ne_eqb, append-nil, Call, IsClient, HasArguments}
use Rattle.clfs_race.proofs.Words.{ClientScript, Request, reopens, Meets, Division, IsDivided, IsDividedFurther}
use Rattle.std.proofs.Common.{slice_index_or, position}
use Rattle.std.specs.Prelude.{◌||◌, not}
use Rattle.std.specs.List.{All}
use Rattle.std.proofs.lemmas.Bool.{eq-eqb}
use Rattle.std.proofs.lemmas.List.Elements.{All-nil, All-head, All-tail, All-cons, All-push}
use Rattle.std.proofs.lemmas.List.Quantifiers.{position-Some}
use Rattle.std.proofs.lemmas.Grind.{common_steps}
use Rattle.clfs_turn.specs.Lists.{is_in, are_distinct}
use Rattle.clfs_model.specs.Run.{asks, bad_line}
use Rattle.clfs_race.specs.Scripts.{calls_asked, bad_places}
use Rattle.clfs_race.specs.Divided.{clients_of, calls_in, is_of, with_call, with_request, HasAllArguments}

-- ---- where a client's script stands

-- the script at this place is the first that is the client's
record StandsAt (scripts : List ClientScript) (client place : ℕ) : Type 0 where
  inside : place < length scripts
  there : (d : ClientScript) → is_of client (slice_index_or scripts place d) ≡ true
  first : (d : ClientScript) (before : ℕ) → before < place → is_of client (slice_index_or scripts before d) ≡ false

stands_at : (scripts : List ClientScript) (client place : ℕ) (d : ClientScript) → position (is_of client) scripts ≡ Some place → StandsAt scripts client place
stands_at scripts client place d found = record {
  inside = (position-Some (is_of client) scripts place d found).0;
  there = λ e. (position-Some (is_of client) scripts place e found).1;
  first = λ e. (position-Some (is_of client) scripts place e found).2;
}

with_call_there : (scripts : List ClientScript) (client place : ℕ) (call : Call) (script : ClientScript) → StandsAt scripts client place
    → script ≡ slice_index_or scripts place script → slice_set scripts place (record script { calls = script.calls ++ call ∷ [] }) ≡ with_call scripts client call
with_call_there [] client place call script at is = absurd (omega (arith, at.inside))
with_call_there (first ∷ scripts) client zero call script at is =
    rw (at.there script) (ap (λ (s : ClientScript). let longer : ClientScript = record s { calls = s.calls ++ call ∷ [] } in longer ∷ scripts) is)
with_call_there (first ∷ scripts) client (suc place) call script at is =
    rw (at.first script 0 (omega arith))
    (ap (λ (rest : List ClientScript). first ∷ rest) (with_call_there scripts client place call script
    (record { inside = omega (arith, at.inside); there = at.there; first = λ d k l. at.first d (suc k) (omega arith) }) is))

-- a write to the client's script, where it was found
pub found_and_pushed : (scripts slice : List ClientScript) (client place : ℕ) (call : Call) (script : ClientScript) (found : Option ℕ) → slice ≡ scripts
    → found ≡ position (is_of client) slice → found ≡ Some place → script ≡ slice_index_or scripts place script
    → slice_set scripts place (record script { calls = script.calls ++ call ∷ [] }) ≡ with_call scripts client call
found_and_pushed scripts slice client place call script found same is some at =
    with_call_there scripts client place call script
    (stands_at scripts client place script (ap (λ (xs : List ClientScript). position (is_of client) xs) (sym same) ∙ sym is ∙ some)) at

-- a new script, where none was found
with_call_new : (scripts : List ClientScript) (client : ℕ) (call : Call) → position (is_of client) scripts ≡ None
    → scripts ++ record { client = client; calls = call ∷ [] } ∷ [] ≡ with_call scripts client call
with_call_new [] client call none = refl
with_call_new (script ∷ scripts) client call none = elim (cases_Bool (is_of client script)) [
  | inl t ↦ absurd (never script scripts client t none)
  | inr t ↦ rw t (ap (λ (rest : List ClientScript). script ∷ rest) (with_call_new scripts client call (rest_none script scripts client t none)))
]
  where
    never : (s : ClientScript) (ss : List ClientScript) (c : ℕ) → is_of c s ≡ true → position (is_of c) (s ∷ ss) ≡ None → ⊥
    never s ss c t absent = let found : position (is_of c) (s ∷ ss) ≡ Some 0 = grind (arith, common_steps) in cc (found, absent)

    rest_none : (s : ClientScript) (ss : List ClientScript) (c : ℕ) → is_of c s ≡ false → position (is_of c) (s ∷ ss) ≡ None → position (is_of c) ss ≡ None
    rest_none s ss c t absent = grind (arith, common_steps)

pub none_and_added : (scripts slice : List ClientScript) (client : ℕ) (call : Call) (found : Option ℕ) → slice ≡ scripts
    → found ≡ position (is_of client) slice → found ≡ None
    → scripts ++ record { client = client; calls = call ∷ [] } ∷ [] ≡ with_call scripts client call
none_and_added scripts slice client call found same is none =
    with_call_new scripts client call (ap (λ (xs : List ClientScript). position (is_of client) xs) (sym same) ∙ sym is ∙ none)

-- ---- the calls of each client

more_of_it : (scripts : List ClientScript) (client : ℕ) (call : Call) → calls_in (with_call scripts client call) client ≡ calls_in scripts client ++ call ∷ []
more_of_it [] client call = let t : (client == client) ≡ true = eq-eqb client client refl in rw t refl
more_of_it (script ∷ scripts) client call = elim (cases_Bool (is_of client script)) [
  | inl t ↦ rw (t, t) refl
  | inr t ↦ rw (t, t) (more_of_it scripts client call)
]

same_of_others : (scripts : List ClientScript) (client other : ℕ) (call : Call) → (client == other) ≡ false
    → calls_in (with_call scripts client call) other ≡ calls_in scripts other
same_of_others [] client other call not = rw not refl
same_of_others (script ∷ scripts) client other call not = elim (cases_Bool (is_of client script)) [
  | inl t ↦ let same : script.client ≡ client = eqb-true script.client client t in
      let no : (script.client == other) ≡ false = rw same not in rw (t, no) refl
  | inr t ↦ rw t (elim (cases_Bool (is_of other script)) [ inl u ↦ rw u refl | inr u ↦ rw u (same_of_others scripts client other call not) ])
]

asked_more : (client : ℕ) (requests more : List Request) → calls_asked client (requests ++ more) ≡ calls_asked client requests ++ calls_asked client more
asked_more client [] more = refl
asked_more client (asks other call ∷ requests) more = elim (cases_Bool (other == client)) [
  | inl t ↦ rw t (ap (λ (calls : List Call). call ∷ calls) (asked_more client requests more))
  | inr t ↦ rw t (asked_more client requests more)
]
asked_more client (reopens other ∷ requests) more = asked_more client requests more
asked_more client (bad_line at ∷ requests) more = asked_more client requests more

bad_more : (requests more : List Request) → bad_places (requests ++ more) ≡ bad_places requests ++ bad_places more
bad_more [] more = refl
bad_more (asks client call ∷ requests) more = bad_more requests more
bad_more (reopens client ∷ requests) more = bad_more requests more
bad_more (bad_line at ∷ requests) more = ap (λ (places : List ℕ). at ∷ places) (bad_more requests more)

calls_further : (scripts : List ClientScript) (requests : List Request) (request : Request) → ((client : ℕ) → calls_in scripts client ≡ calls_asked client requests)
    → (client : ℕ) → calls_in (with_request scripts request) client ≡ calls_asked client (requests ++ request ∷ [])
calls_further scripts requests (asks client call) before other = elim (cases_Bool (client == other)) [
  | inl t ↦ let same : other ≡ client = sym (eqb-true client other t) in
      let now : calls_asked other (asks client call ∷ []) ≡ call ∷ [] = rw t refl in
      let it : calls_in (with_call scripts client call) other ≡ calls_in scripts other ++ call ∷ [] = rw same (more_of_it scripts client call) in
      it ∙ ap (λ (calls : List Call). calls ++ call ∷ []) (before other) ∙ ap (λ (calls : List Call). calls_asked other requests ++ calls) (sym now)
      ∙ sym (asked_more other requests (asks client call ∷ []))
  | inr t ↦ let now : calls_asked other (asks client call ∷ []) ≡ [] = rw t refl in
      same_of_others scripts client other call t ∙ before other ∙ sym (append-nil (calls_asked other requests))
      ∙ ap (λ (calls : List Call). calls_asked other requests ++ calls) (sym now) ∙ sym (asked_more other requests (asks client call ∷ []))
]
calls_further scripts requests (reopens client) before other =
    before other ∙ sym (append-nil (calls_asked other requests)) ∙ sym (asked_more other requests (reopens client ∷ []))
calls_further scripts requests (bad_line at) before other =
    before other ∙ sym (append-nil (calls_asked other requests)) ∙ sym (asked_more other requests (bad_line at ∷ []))

-- ---- the clients

-- clients with one more, if it isn't among them
abbrev with_client : List ℕ → ℕ → List ℕ
with_client [] client = client ∷ []
with_client (first ∷ clients) client = if first == client then first ∷ clients else first ∷ with_client clients client

clients_with_call : (scripts : List ClientScript) (client : ℕ) (call : Call) → clients_of (with_call scripts client call) ≡ with_client (clients_of scripts) client
clients_with_call [] client call = refl
clients_with_call (script ∷ scripts) client call = elim (cases_Bool (is_of client script)) [
  | inl t ↦ rw t refl
  | inr t ↦ rw t (ap (λ (clients : List ℕ). script.client ∷ clients) (clients_with_call scripts client call))
]

-- it is the only one that came to them
none_but_it : (clients : List ℕ) (client other : ℕ) → (client == other) ≡ false → is_in other (with_client clients client) ≡ is_in other clients
none_but_it [] client other not = rw not refl
none_but_it (first ∷ clients) client other not = elim (cases_Bool (first == client)) [
  | inl t ↦ rw t refl
  | inr t ↦ rw t (ap (λ (b : Bool). (first == other) || b) (none_but_it clients client other not))
]

still_apart : (clients : List ℕ) (client : ℕ) → are_distinct clients ≡ true → are_distinct (with_client clients client) ≡ true
still_apart [] client apart = refl
still_apart (first ∷ clients) client apart = elim (cases_Bool (first == client)) [
  | inl t ↦ rw t apart
  | inr t ↦
      let unlike : (client == first) ≡ false = ne_eqb client first (λ e. let same : (first == client) ≡ true = eq-eqb first client (sym e) in cc (t, same)) in
      rw (t, none_but_it clients client first unlike) (both (is_in first clients) (are_distinct clients) (are_distinct (with_client clients client)) apart (λ rest. still_apart clients client rest))
]
  where
    both : (among now after : Bool) → (not among && now) ≡ true → (now ≡ true → after ≡ true) → (not among && after) ≡ true
    both false true after e next = next refl
    both false false after e next = absurd (cc e)
    both true now after e next = absurd (cc e)

apart_further : (scripts : List ClientScript) (request : Request) → are_distinct (clients_of scripts) ≡ true → are_distinct (clients_of (with_request scripts request)) ≡ true
apart_further scripts (asks client call) apart = rw (clients_with_call scripts client call) (still_apart (clients_of scripts) client apart)
apart_further scripts (reopens client) apart = apart
apart_further scripts (bad_line at) apart = apart

clients_further : (scripts : List ClientScript) (request : Request) → Meets request → ((other : ℕ) → is_in other (clients_of scripts) ≡ true → IsClient other)
    → (other : ℕ) → is_in other (clients_of (with_request scripts request)) ≡ true → IsClient other
clients_further scripts (asks client call) meets before other is = elim (cases_Bool (client == other)) [
  | inl t ↦ subst IsClient (eqb-true client other t) meets.is_client
  | inr t ↦ before other (sym (none_but_it (clients_of scripts) client other t) ∙ ap (λ (clients : List ℕ). is_in other clients) (sym (clients_with_call scripts client call)) ∙ is)
]
clients_further scripts (reopens client) meets before other is = before other is
clients_further scripts (bad_line at) meets before other is = before other is

-- ---- the conditions

arguments_with_call : (scripts : List ClientScript) (client : ℕ) (call : Call) → HasArguments call → All HasAllArguments scripts → All HasAllArguments (with_call scripts client call)
arguments_with_call [] client call has before =
    All-push HasAllArguments [] (record { client = client; calls = call ∷ [] }) (All-nil HasAllArguments) (All-push HasArguments [] call (All-nil HasArguments) has)
arguments_with_call (script ∷ scripts) client call has before = elim (cases_Bool (is_of client script)) [
  | inl t ↦ rw t (All-cons HasAllArguments (record script { calls = script.calls ++ call ∷ [] }) scripts
      (All-push HasArguments script.calls call (All-head HasAllArguments script scripts before) has) (All-tail HasAllArguments script scripts before))
  | inr t ↦ rw t (All-cons HasAllArguments script (with_call scripts client call) (All-head HasAllArguments script scripts before)
      (arguments_with_call scripts client call has (All-tail HasAllArguments script scripts before)))
]

arguments_further : (scripts : List ClientScript) (request : Request) → Meets request → All HasAllArguments scripts → All HasAllArguments (with_request scripts request)
arguments_further scripts (asks client call) meets before = arguments_with_call scripts client call meets.arguments before
arguments_further scripts (reopens client) meets before = before
arguments_further scripts (bad_line at) meets before = before

-- ---- all of it

-- nothing is divided yet
pub divided_none : (division : Division) → division.scripts.items ≡ [] → division.bad.items ≡ [] → IsDivided [] division
divided_none division none none_bad = record {
  bad = none_bad;
  calls = λ client. ap (λ (scripts : List ClientScript). calls_in scripts client) none;
  apart = ap (λ (scripts : List ClientScript). are_distinct (clients_of scripts)) none;
  clients = λ client is. let no : false ≡ true = ap (λ (scripts : List ClientScript). is_in client (clients_of scripts)) (sym none) ∙ is in absurd (cc no);
  arguments = subst (λ (scripts : List ClientScript). All HasAllArguments scripts) (sym none) (All-nil HasAllArguments);
}

-- one line more
pub divided_further : (requests : List Request) (request : Request) (old new : Division) → IsDivided requests old → IsDividedFurther old request new
    → IsDivided (requests ++ request ∷ []) new
divided_further requests request old new is further = record {
  bad = further.bad ∙ ap (λ (places : List ℕ). places ++ bad_places (request ∷ [])) is.bad ∙ sym (bad_more requests (request ∷ []));
  calls = λ client. ap (λ (scripts : List ClientScript). calls_in scripts client) further.scripts ∙ calls_further old.scripts.items requests request is.calls client;
  apart = ap (λ (scripts : List ClientScript). are_distinct (clients_of scripts)) further.scripts ∙ apart_further old.scripts.items request is.apart;
  clients = λ client in_it. clients_further old.scripts.items request further.meets is.clients client
      (ap (λ (scripts : List ClientScript). is_in client (clients_of scripts)) (sym further.scripts) ∙ in_it);
  arguments = subst (λ (scripts : List ClientScript). All HasAllArguments scripts) (sym further.scripts) (arguments_further old.scripts.items request further.meets is.arguments);
}
