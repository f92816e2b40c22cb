-- What is computed from the tables in memory is what the machine's definitions say of the state that they hold.
use Rattle.clfs_manager.proofs.Words.{◌≡◌, ℕ, sym, ap, ◌∙◌, List, Option, frontier, Head, Place, State, Stream, heads_of, hold, base_of, base_in}
use Rattle.clfs_lsn.specs.Heads.{hold_of}

-- the hold
pub hold_is : (s : State) (place : Place) (tail : Option ℕ) (streams : List Stream) (heads : List Head) (result : ℕ)
    → result ≡ hold_of (frontier place) tail (base_in streams) heads → hold s ≡ hold_of (frontier s.place) s.archive (base_of s) (heads_of s)
    → place ≡ s.place → tail ≡ s.archive → streams ≡ s.streams → heads ≡ heads_of s → result ≡ hold s
hold_is s place tail streams heads result is law of_place of_tail of_streams of_heads =
    is ∙ ap (λ (x : Place). hold_of (frontier x) tail (base_in streams) heads) of_place
    ∙ ap (λ (x : Option ℕ). hold_of (frontier s.place) x (base_in streams) heads) of_tail
    ∙ ap (λ (x : List Stream). hold_of (frontier s.place) s.archive (base_in x) heads) of_streams
    ∙ ap (λ (x : List Head). hold_of (frontier s.place) s.archive (base_of s) x) of_heads ∙ sym law
