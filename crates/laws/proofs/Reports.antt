-- The reports of berth k in an answer are those in what the answer says of k; so the reports of a run, too, are those of the berth's
-- own events. And a show returns what the berth's own part holds.
use mathlib.Core.Path.{◌≡◌, refl, sym, ap, ap₂, ◌∙◌}
use Prim.Native.Nat.{ℕ, zero, suc, ◌+◌, ◌-◌, ◌*◌, ◌≤◌, ◌<◌}
use native.Mathlib.Omega.{arith}
use mathlib.Core.Bool.{Bool, true, false, ◌&&◌}
use mathlib.Core.List.{List, [], ◌∷◌, ◌++◌, append_assoc, append-nil}
use lib.ListN.{length, get_or, take}
use lib.Dec.{T, eqb, ltb, leb}
use mir.Facts.{yes_eqb, yes_ltb, yes_and}
use Rattle.rules.specs.Tests.{pick}
use Rattle.rules.specs.Numbers.{berth_count, to_berth, N_OK}
use Rattle.rules.specs.Parties.{scheduler}
use Rattle.rules.specs.Nodes.{berth_at, Held}
use Rattle.rules.specs.Ranges.{in_order}
use Rattle.rules.specs.Turns.{length_sending}
use Rattle.rules.specs.Stores.{right_store, area_of}
use Rattle.rules.specs.Answers.{Answer, refused, ready, heard, codes, sent, handed, none, shown, changed, Side, receive, send, Report, reported, failed_side, word_reports, codes_reports, reports}
use Rattle.rules.specs.Events.{Call}
use Rattle.rules.specs.Calls.{answers, showable, chosen, shown_length, showing}
use Rattle.rules.specs.Alone.{Says, part_of, says_all}
use Rattle.rules.specs.declared.Party.{Party}
use Rattle.rules.specs.declared.Choice.{Choice}
use Rattle.rules.specs.Words.{Codes, Word, Delivered, Begun, Failed, Ignored, TooLong, Took, Going, Waiting}
use Rattle.rules.proofs.Cases.{Tested, holds, fails, leb-cases, eqb-cases, eqb_is, eqb-not, is_true, pick-either}
use Rattle.laws.specs.Own.{over, only, owns, no_codes, says_of, of_berth, said_reports, part_shown}
use Rattle.laws.proofs.Isolation.{berth-says}

-- ---- lists of reports

pub over-append : {X Y : Type 0} (f : X → List Y) (xs ys : List X) → over f (xs ++ ys) ≡ over f xs ++ over f ys
unfolding over
over-append f [] ys = refl
over-append f (x ∷ xs) ys = ap (λ r. f x ++ r) (over-append f xs ys) ∙ sym (append_assoc (f x) (over f xs) (over f ys))

pub only-append : (f : Report → Bool) (rs ss : List Report) → only f (rs ++ ss) ≡ only f rs ++ only f ss
unfolding only
only-append f [] ss = refl
only-append f (r ∷ rs) ss = go (f r) (only-append f rs ss)
  where
    go : (b : Bool) → only f (rs ++ ss) ≡ only f rs ++ only f ss
        → pick b (r ∷ only f (rs ++ ss)) (only f (rs ++ ss)) ≡ pick b (r ∷ only f rs) (only f rs) ++ only f ss
    go true e = ap (λ q. r ∷ q) e
    go false e = e

of-append : (k : ℕ) (rs ss : List Report) → of_berth k (rs ++ ss) ≡ of_berth k rs ++ of_berth k ss
unfolding of_berth
of-append k rs ss = only-append (λ r. eqb r.berth k) rs ss

-- the reports of berth j are all k's or none
module _ (k j : ℕ) where
  none-either : (b : Bool) → ◌≡◌ {A = List Report} [] (pick b [] [])
  none-either true = refl
  none-either false = refl

  reported-of : (side : Side) (c : ℕ) (party : Party) → of_berth k (reported j side c party) ≡ pick (eqb j k) (reported j side c party) []
  unfolding of_berth only reported
  reported-of side zero party = none-either (eqb j k)
  reported-of side (suc c) party = refl

  word_of : (w : Word) → of_berth k (word_reports j w) ≡ pick (eqb j k) (word_reports j w) []
  unfolding word_reports of_berth only
  word_of (Delivered n) = reported-of receive N_OK scheduler
  word_of (Begun n) = none-either (eqb j k)
  word_of (Failed c party) = reported-of (failed_side c) c party
  word_of (Ignored i) = none-either (eqb j k)
  word_of TooLong = none-either (eqb j k)
  word_of Took = none-either (eqb j k)
  word_of Going = none-either (eqb j k)
  word_of Waiting = none-either (eqb j k)

-- ---- a tick's codes: those of berth k stand at place k

module _ (k : ℕ) where
  codes-past : (cs : List Codes) (i : ℕ) → k < i → of_berth k (codes_reports i cs) ≡ []
  unfolding codes_reports
  codes-past [] i h = unfold of_berth only in refl
  codes-past (c ∷ cs) i h =
      let e : eqb i k ≡ false = eqb-not i k (λ q. omega arith) in
      rw (of-append, reported-of k i receive c.receive scheduler, of-append, reported-of k i send c.send c.party, e) (codes-past cs (suc i) (omega arith))

  codes_at : (cs : List Codes) (n i : ℕ) → k ≡ i + n
      → of_berth k (codes_reports i cs) ≡ reported k receive (get_or cs n no_codes).receive scheduler ++ reported k send (get_or cs n no_codes).send (get_or cs n no_codes).party
  unfolding codes_reports
  codes_at [] n i e = unfold of_berth only reported in refl
  codes_at (c ∷ cs) zero i e =
      let q : i ≡ k = omega arith in
      let t : eqb i k ≡ true = eqb_is i k q in
      rw (of-append, reported-of k i receive c.receive scheduler, of-append, reported-of k i send c.send c.party, t, codes-past cs (suc i) (omega arith), append-nil, q)
  codes_at (c ∷ cs) (suc n) i e =
      let t : eqb i k ≡ false = eqb-not i k (λ q. omega arith) in
      rw (of-append, reported-of k i receive c.receive scheduler, of-append, reported-of k i send c.send c.party, t) (codes_at cs n (suc i) (omega arith))

  -- ---- one answer

  pub reports-of : (a : Answer) → of_berth k (reports a) ≡ over (said_reports k) (says_of k a)
  unfolding reports says_of over said_reports of_berth only
  reports-of (refused n) = refl
  reports-of ready = refl
  reports-of (heard j old w) = go (eqb-cases j k)
    where
      go : Tested (eqb j k) (j ≡ k) (j ≡ k → ⊥) → of_berth k (reports (heard j old w)) ≡ over (said_reports k) (says_of k (heard j old w))
      go (holds t e) = rw (of-append, reported-of k j receive old scheduler, word_of k j w, t, append-nil, e)
      go (fails t e) = rw (of-append, reported-of k j receive old scheduler, word_of k j w, t)
  reports-of (codes cs) = codes_at cs k 0 (omega arith) ∙ sym (append-nil _)
  reports-of (sent j) = pick-either (λ (xs : List Says). [] ≡ over (said_reports k) xs) (eqb j k) _ _ (λ t. refl) (λ t. refl)
  reports-of (handed id f c passed party) = go (leb-cases to_berth id) (eqb-cases (id - to_berth) k)
    where
      go : Tested (leb to_berth id) (to_berth ≤ id) (id < to_berth) → Tested (eqb (id - to_berth) k) (id - to_berth ≡ k) (id - to_berth ≡ k → ⊥)
          → of_berth k (reports (handed id f c passed party)) ≡ over (said_reports k) (says_of k (handed id f c passed party))
      go (holds l u) (holds t e) = rw (l, reported-of k (id - to_berth) send c party, t, append-nil, e)
      go (holds l u) (fails t e) = rw (l, reported-of k (id - to_berth) send c party, t)
      go (fails l u) t = rw l
  reports-of (none passed) = refl
  reports-of (shown part) = refl
  reports-of (changed j) = pick-either (λ (xs : List Says). [] ≡ over (said_reports k) xs) (eqb j k) _ _ (λ t. refl) (λ t. refl)

  reports-all : (rs : List Answer) → of_berth k (over reports rs) ≡ over (said_reports k) (over (says_of k) rs)
  unfolding over
  reports-all [] = unfold of_berth only in refl
  reports-all (a ∷ rs) =
      of-append k (reports a) (over reports rs)
      ∙ ap₂ (λ (q r : List Report). q ++ r) (reports-of a) (reports-all rs)
      ∙ sym (over-append (said_reports k) (says_of k a) (over (says_of k) rs))

-- EACH BERTH'S REPORTS. The reports of berth k in the answers of any run are those in what its own events say on that berth alone.
pub berth-reports : (k : ℕ) (h : Held) (cs : List Call)
    → of_berth k (over reports (answers h cs)) ≡ over (said_reports k) (says_all h.node.settings (part_of k h) (owns k h cs))
berth-reports k h cs = reports-all k (answers h cs) ∙ ap (over (said_reports k)) (berth-says k h cs)

-- WHAT A SHOW OF A BERTH RETURNS is a function of that berth's own part, given the node in order and both stores of the right length.
pub berth-shown : (k : ℕ) (h : Held) (choice : Choice) → k < berth_count → T (in_order h.node)
    → length h.incoming ≡ berth_count * h.node.settings.area → length h.outgoing ≡ berth_count * h.node.settings.area
    → showing h k choice ≡ part_shown (part_of k h) choice
unfolding showing shown_length showable part_shown part_of right_store
berth-shown k h choice l o i e =
    let t : (in_order h.node && (eqb (length h.incoming) (berth_count * h.node.settings.area)
    && (eqb (length h.outgoing) (berth_count * h.node.settings.area) && ltb k berth_count))) ≡ true =
    is_true _ (yes_and (in_order h.node) _ o (yes_and (eqb (length h.incoming) _) _ (yes_eqb i) (yes_and (eqb (length h.outgoing) _) _ (yes_eqb e) (yes_ltb l)))) in
    rw t (go choice)
  where
    go : (choice : Choice)
        → take (chosen choice (berth_at h.node k).last (length_sending (berth_at h.node k).tx)) (area_of h.node.settings.area k (chosen choice h.incoming h.outgoing))
        ≡ chosen choice (take (berth_at h.node k).last (area_of h.node.settings.area k h.incoming))
        (take (length_sending (berth_at h.node k).tx) (area_of h.node.settings.area k h.outgoing))
    go Choice.Arrived = refl
    go Choice.Sending = refl
