-- The send side keeps its party: whatever a frame, a tick or a turn makes of it, it has the same party or is idle; so a party in range stays
-- in range, and a report names the party that was kept.
use Prim.Native.Nat.{ℕ, zero, suc, ◌≤◌}
use native.Mathlib.Omega.{arith}
use mathlib.Core.Path.{◌≡◌, refl, sym, ap, ◌∙◌}
use mathlib.Core.List.{List}
use lib.Dec.{eqb, leb}
use Rattle.rules.specs.Numbers.{the_laptop, single_most, consecutive_most, go_status, wait_status, overflow_status}
use Rattle.rules.specs.Parties.{party_of, Kept, reporting}
use Rattle.rules.specs.Ranges.{PartyRange}
use Rattle.rules.specs.Frames.{low, flow_fits, fills_block}
use Rattle.rules.specs.Arrivals.{Told, by_status, flow_ignored, flow_came}
use Rattle.rules.specs.Ticks.{tx_ticked}
use Rattle.rules.specs.Turns.{to_go, after_consecutive, after_message, begins_with}
use Rattle.rules.specs.Answers.{Side, reported}
use Rattle.rules.specs.declared.Sending.{Sending}
use Rattle.rules.specs.declared.Party.{Party}
use Rattle.rules.specs.declared.Tx.{Tx}
use Rattle.rules.proofs.Cases.{eqb-not, pick-either, ran-either}

-- ---- a side keeps its own

pub kept-own : (tx : Tx) → Kept (party_of tx) tx
kept-own Tx.Idle = tt
kept-own (Tx.SingleDue party n t) = refl
kept-own (Tx.FirstDue party n t) = refl
kept-own (Tx.AwaitsFlow party o t) = refl
kept-own (Tx.Consecutive party o t) = refl

-- ---- what each rule makes of it

kept-status : (p : Party) (o : Sending) (party : Party) (d : List ℕ) → party ≡ p → Kept p (by_status o party d).tx
unfolding by_status
kept-status p o party d e =
    let Keeps : Told → Type 0 = λ told. Kept p told.tx in
    pick-either Keeps (eqb (low d) go_status) _ _ (λ u. e)
    (λ u. pick-either Keeps (eqb (low d) wait_status) _ _ (λ v. e)
    (λ v. pick-either Keeps (eqb (low d) overflow_status) _ _ (λ w. tt) (λ w. tt)))

pub kept-flow : (p : Party) (tx : Tx) (d : List ℕ) → Kept p tx → Kept p (flow_came tx d).tx
unfolding flow_ignored
kept-flow p Tx.Idle d e = tt
kept-flow p (Tx.SingleDue party n t) d e = e
kept-flow p (Tx.FirstDue party n t) d e = e
kept-flow p (Tx.AwaitsFlow party o t) d e = pick-either (λ (told : Told). Kept p told.tx) (flow_fits d) _ _ (λ u. kept-status p o party d e) (λ u. e)
kept-flow p (Tx.Consecutive party o t) d e = e

pub kept-ticked : (p : Party) (tx : Tx) → Kept p tx → Kept p (tx_ticked tx)
kept-ticked p Tx.Idle e = tt
kept-ticked p (Tx.SingleDue party n t) e = ran-either (Kept p) t _ _ (λ u. e) tt
kept-ticked p (Tx.FirstDue party n t) e = ran-either (Kept p) t _ _ (λ u. e) tt
kept-ticked p (Tx.AwaitsFlow party o t) e = ran-either (Kept p) t _ _ (λ u. e) tt
kept-ticked p (Tx.Consecutive party o t) e = pick-either (Kept p) (eqb o.left 0) _ _ (λ u. ran-either (Kept p) t _ _ (λ v. e) tt) (λ u. e)

kept-consecutive : (p : Party) (o : Sending) (party : Party) → party ≡ p → Kept p (after_consecutive o party)
unfolding after_consecutive
kept-consecutive p o party e =
    pick-either (Kept p) (leb (to_go o) consecutive_most) _ _ (λ u. tt)
    (λ u. pick-either (Kept p) (fills_block o.block o.sent) _ _ (λ v. e) (λ v. e))

pub kept-message : (p : Party) (tx : Tx) → Kept p tx → Kept p (after_message tx)
kept-message p Tx.Idle e = tt
kept-message p (Tx.SingleDue party n t) e = tt
kept-message p (Tx.FirstDue party n t) e = e
kept-message p (Tx.AwaitsFlow party o t) e = e
kept-message p (Tx.Consecutive party o t) e = kept-consecutive p o party e

pub kept-begins : (n : ℕ) (party : Party) → Kept party (begins_with n party)
unfolding begins_with
kept-begins n party = pick-either (Kept party) (leb n single_most) _ _ (λ u. refl) (λ u. refl)

-- ---- the range of what is kept

pub kept-in-range : (p : Party) (tx : Tx) → Kept p tx → p.0 ≤ the_laptop → PartyRange tx
kept-in-range p Tx.Idle e l = omega arith
kept-in-range p (Tx.SingleDue party n t) e l = rw e l
kept-in-range p (Tx.FirstDue party n t) e l = rw e l
kept-in-range p (Tx.AwaitsFlow party o t) e l = rw e l
kept-in-range p (Tx.Consecutive party o t) e l = rw e l

-- ---- a report names it

pub reporting-named : (k : ℕ) (s : Side) (c : ℕ) (party : Party) → reported k s c (reporting c party) ≡ reported k s c party
unfolding reported reporting
reporting-named k s zero party = refl
reporting-named k s (suc c) party = rw (eqb-not (suc c) 0 (λ e. omega arith))

-- so what is reported for two parties is the same where they are named the same
pub named-alike : (k : ℕ) (s : Side) (c : ℕ) (p q : Party) → reporting c p ≡ reporting c q → reported k s c p ≡ reported k s c q
named-alike k s c p q e = sym (reporting-named k s c p) ∙ ap (reported k s c) e ∙ reporting-named k s c q

-- the party that was kept is named, also after the message has ended, since then nothing is reported
pub kept-reporting : (p : Party) (tx : Tx) (c : ℕ) → Kept p tx → (tx ≡ Tx.Idle → c ≡ 0) → reporting c (party_of tx) ≡ reporting c p
unfolding reporting
kept-reporting p Tx.Idle c e none = rw (none refl)
kept-reporting p (Tx.SingleDue party n t) c e none = ap (reporting c) e
kept-reporting p (Tx.FirstDue party n t) c e none = ap (reporting c) e
kept-reporting p (Tx.AwaitsFlow party o t) c e none = ap (reporting c) e
kept-reporting p (Tx.Consecutive party o t) c e none = ap (reporting c) e

pub kept-named : (k : ℕ) (s : Side) (p : Party) (tx : Tx) (c : ℕ) → Kept p tx → (tx ≡ Tx.Idle → c ≡ 0) → reported k s c (party_of tx) ≡ reported k s c p
kept-named k s p tx c e none = named-alike k s c (party_of tx) p (kept-reporting p tx c e none)
