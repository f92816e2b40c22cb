-- Entries of a journal, with calls that lines ask for.
use Rattle.std.specs.Prelude.{ℕ, List, [], ◌∷◌, codes}
use Rattle.clfs_lsn.specs.Lsn.{lsn_number}
use Rattle.clfs_model.specs.declared.call.Call.{Call}
use Rattle.clfs_model.specs.declared.call.Call.TheVariants as calls
use Rattle.clfs_model.specs.declared.journal.Entry.{Entry}
use Rattle.clfs_model.specs.declared.refusal.Refusal.TheVariants as refusals
use Rattle.clfs_model.specs.declared.reply.Happened.TheVariants.{Fine}
use Rattle.clfs_model.specs.declared.reply.Reply.{Reply}
use Rattle.clfs_model.specs.declared.reply.Reply.TheVariants as replies
use Rattle.clfs_model.specs.Run.{Request, asks}
use Rattle.clfs_model.specs.Script.{line_request}
use Rattle.clfs_rows.specs.Worked.{append_of_zeros}

-- the call of a request, or a list of extents where it is none
abbrev pub call_asked : Request → Call
call_asked (asks client call) = call
call_asked _ = calls.ListExtents

-- client 1's entry of a journal, with the call of this line and this reply
abbrev pub entry_for_line : ℕ → List ℕ → Reply → Entry
entry_for_line number line reply = record { client = 1; number = number; call = call_asked (line_request line); happened = Fine; reply = reply }

-- client 1's entries: what its first area holds is changed by some of them, and is not by others
abbrev pub entries_of_an_area : List Entry
entries_of_an_area =
    entry_for_line 1 (codes "1 reserve 1 960 960") (replies.Held 4)
    ∷ entry_for_line 2 (codes "1 append 1 aa 0:0:0 0:0:0 reserved hold 8 960") (replies.Placed (lsn_number 1 0 0))
    ∷ entry_for_line 3 (append_of_zeros 960 (codes " reserved")) (replies.Placed (lsn_number 1 512 0))
    ∷ entry_for_line 4 (codes "1 append 1 aa 0:0:0 0:0:0") (replies.Placed (lsn_number 1 1536 0))
    ∷ entry_for_line 5 (codes "1 append 1 aa 0:0:0 0:0:0 reserved") (replies.Refused refusals.NoSuchArea)
    ∷ entry_for_line 6 (codes "1 restart 1 aa - reserved") (replies.Placed (lsn_number 1 1536 1))
    ∷ entry_for_line 7 (codes "1 reserve 2 8") (replies.Held 9)
    ∷ entry_for_line 8 (codes "1 append 2 aa 0:0:0 0:0:0 reserved") (replies.Placed (lsn_number 1 2048 0))
    ∷ entry_for_line 9 (codes "1 release 1 1") (replies.Held 2)
    ∷ entry_for_line 10 (codes "1 drop 2") replies.Done
    ∷ entry_for_line 11 (codes "1 drop 1") replies.Done
    ∷ entry_for_line 12 (codes "1 reserve 1 8") (replies.Held 1)
    ∷ entry_for_line 13 (codes "1 area 1 960 4") (replies.Area 1)
    ∷ []
