-- What was answered tells whether the record was accepted, and the entry in it: an entry's numbers tell the entry.
use Rattle.std.proofs.Common.{◌≡◌, ℕ, List, get_or, Some, None, Result, Ok, Err, if◌then◌else◌, ap, refl}
use Rattle.std.specs.Result.{result_ok}
use Rattle.rules.specs.Answers.{Paper}
use Rattle.journal.specs.Records.{entry_in, accepts, entry_paper, read_paper, reads}
use Rattle.journal.specs.declared.Entry.{Entry}
use Rattle.journal.specs.declared.JournalError.{JournalError}
use Rattle.journal.proofs.Files.{read-refused, read-accepted}

-- the entry of its numbers
entry_back : Paper → Entry
entry_back p =
    let n : ℕ → ℕ = λ i. get_or p.values i 0 in
    record { kind = n 0; berth = n 1; code = n 2; length = n 3; tick = n 4 }

pub read_entry : (d : List ℕ) (r : Result Entry JournalError) → read_paper r ≡ reads d → result_ok r ≡ (if accepts d then Some (entry_in d) else None)
unfolding entry_back entry_paper read_paper reads
read_entry d (Ok a) e =
    let h = read-accepted d (Ok a) a e refl in
    let p : entry_paper a ≡ entry_paper (entry_in d) = rw h at e in
    rw h (ap (λ q. Some (entry_back q)) p)
read_entry d (Err error) e = rw (read-refused d (Err error) error e refl) refl
