-- Entries of a journal, and what they tell of the disk.
use Rattle.std.specs.Prelude.{◌≡◌, ℕ, Bool, true, false, List, [], ◌∷◌}
use Rattle.std.specs.List.{list_any}
use Rattle.clfs_model.specs.declared.call.Call.{Call}
use Rattle.clfs_model.specs.declared.journal.Entry.{Entry}
use Rattle.clfs_model.specs.declared.refusal.Refusal.{Refusal}
use Rattle.clfs_model.specs.declared.reply.Happened.{Happened}
use Rattle.clfs_model.specs.declared.reply.Happened.TheVariants.{Fault, Damage}
use Rattle.clfs_model.specs.declared.reply.Reply.{Reply}
use Rattle.clfs_model.specs.declared.reply.Reply.TheVariants as replies
use Rattle.clfs_model.specs.declared.refusal.Refusal.TheVariants as refusals
use Rattle.clfs_model.specs.declared.state.State.{State}
use Rattle.clfs_model.specs.Happened.{happened_of}
use Rattle.clfs_model.specs.Step.{Step}
use Rattle.clfs_manager.specs.Reading.{TellsBlock}

-- the entry of a call that was answered so
abbrev pub entry_of : ℕ → ℕ → Call → Reply → Entry
entry_of client number call reply = record { client = client; number = number; call = call; happened = happened_of reply; reply = reply }

-- the client that an entry names
abbrev pub client_of : Entry → ℕ
client_of entry = entry.client

-- a fault of the disk
abbrev pub is_fault : Happened → Bool
is_fault Fault = true
is_fault _ = false

-- damage
abbrev pub is_damage : Happened → Bool
is_damage Damage = true
is_damage _ = false

-- some entry met a fault of the disk
abbrev pub has_fault : List Entry → Bool
has_fault entries = list_any (λ (entry : Entry). is_fault entry.happened) entries

-- some entry met damage
abbrev pub has_damage : List Entry → Bool
has_damage entries = list_any (λ (entry : Entry). is_damage entry.happened) entries

-- memory ran out
abbrev pub is_out_of_memory : Reply → Bool
is_out_of_memory (replies.Refused refusals.NoMemory) = true
is_out_of_memory _ = false

-- Where an entry tells damage, it is of the block of the record to which its call comes in this state, and some bytes fail there.
abbrev pub TellsItsBlock : State → Entry → Type 0
TellsItsBlock s entry = (refusal : Refusal) → entry.reply ≡ replies.Refused refusal → TellsBlock s entry.client entry.call refusal

-- Each entry is a step from the state in which it begins, and tells damage at its place alone.
abbrev pub EntriesTellPlaces : Bool → State → List Entry → State → Type 0
EntriesTellPlaces told s [] t = t ≡ s
EntriesTellPlaces told s (entry ∷ entries) t =
    (mid : State) × (Step told s entry.client entry.call entry.happened entry.reply mid × (TellsItsBlock s entry × EntriesTellPlaces told mid entries t))
