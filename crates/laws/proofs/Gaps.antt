-- The law of the gaps. From a Going on, a berth's send side keeps the gap that it took (rules, `Paced`); a consecutive frame handed over puts
-- the whole gap before the next one, and by induction over the moments after it the ticks make up for what is gone of it.
use mathlib.Core.Path.{◌≡◌, refl, sym, ap, subst}
use Prim.Native.Nat.{ℕ, zero, suc, ◌+◌, ◌*◌, ◌≤◌, ◌<◌}
use native.Mathlib.Omega.{arith}
use native.Mathlib.Nat.{zero-add, zero-mul, suc-mul}
use mathlib.Core.Bool.{Bool, true, false, not}
use mathlib.Core.List.{List, [], ◌∷◌, ◌++◌}
use lib.ListN.{length}
use lib.Dec.{T}
use mir.Facts.{eqb_yes}
use Rattle.rules.specs.Tests.{pick}
use Rattle.rules.specs.Nodes.{Held}
use Rattle.rules.specs.Frames.{gap_of}
use Rattle.rules.specs.Ticks.{tx_ticked, ticked}
use Rattle.rules.specs.Turns.{sent}
use Rattle.rules.specs.Changes.{changed}
use Rattle.rules.specs.Events.{Call, Event, arrives, ticks, sends, turns, changes}
use Rattle.rules.specs.Alone.{Part, part_of, state_after, part_after, says, AtEach}
use Rattle.rules.specs.declared.Settings.{Settings}
use Rattle.rules.proofs.Even.{one}
use Rattle.rules.proofs.Gaps.{gap-longer}
use Rattle.rules.proofs.Pace.{Paced, going-paced, frame-paced, tick-paced, begins-paced, turn-paced, consecutive-paced}
use Rattle.laws.specs.Own.{owns}
use Rattle.laws.specs.Histories.{Moment, history, history_of, how_many}
use Rattle.laws.specs.Gaps.{goes, stmin_in, hands_consecutive, ticks_at, sends_at, TwoFrames, asked, TickingFrom, Ticking, Spaced}
use Rattle.laws.proofs.Histories.{Served, served-run, history-is}

-- ---- one moment

module _ (s : Settings) (p : Part) where
  abbrev moment_of : Event → Moment
  moment_of e = record { before = p.berth.rx; event = e; said = says s p e }

  -- one that is not answered Going
  paced-after : (g m n : ℕ) (e : Event) → m ≤ g → T (not (goes (moment_of e))) → Paced g m n p.berth.tx
      → Paced g m (one (ticks_at (moment_of e)) + n) (part_after s p e).berth.tx
  unfolding says part_after state_after ticked sent
  paced-after g m n (arrives d) small t q = rw zero-add (frame-paced g m n s p.berth d t q)
  paced-after g m n ticks small t q = subst (λ (l : ℕ). Paced g m l (tx_ticked p.berth.tx)) (omega arith) (tick-paced g m n p.berth.tx q)
  paced-after g m n (sends party l) small t q = rw zero-add (begins-paced g m n (length l) party)
  paced-after g m n turns small t q = rw zero-add (turn-paced g m n p.berth p.outgoing small q)
  paced-after g m n (changes parameter value) small t q = unfold changed in (rw zero-add q)

  -- Going
  paced-going : (e : Event) → T (goes (moment_of e)) → Paced (gap_of (stmin_in e)) 0 0 (part_after s p e).berth.tx
  unfolding says part_after state_after
  paced-going (arrives d) t = going-paced s p.berth d t
  paced-going ticks t = absurd t
  paced-going (sends party m) t = absurd t
  paced-going turns t = absurd t
  paced-going (changes parameter value) t = absurd t

  -- a consecutive frame handed over
  paced-frame : (g m n : ℕ) (e : Event) → Served s p e → T (hands_consecutive (moment_of e)) → Paced g m n p.berth.tx
      → (m ≤ n) × Paced g g 0 (part_after s p e).berth.tx
  unfolding says part_after state_after
  paced-frame g m n (arrives d) r t q = absurd t
  paced-frame g m n ticks r t q = absurd t
  paced-frame g m n (sends party l) r t q = absurd t
  paced-frame g m n turns r t q = consecutive-paced g m n s p.berth p.outgoing r.small r.range r.is-due (eqb_yes t) q
  paced-frame g m n (changes parameter value) r t q = absurd t

-- ---- moments in which none is answered Going, up to a consecutive frame that is handed over

none_of : (f : Moment → Bool) (x : Moment) (xs : List Moment) → how_many f (x ∷ xs) ≡ 0 → T (not (f x)) × (how_many f xs ≡ 0)
unfolding how_many
none_of f x xs = go (f x)
  where
    go : (b : Bool) → pick b 1 0 + how_many f xs ≡ 0 → T (not b) × (how_many f xs ≡ 0)
    go true e = absurd (omega arith)
    go false e = (tt, omega arith)

module _ (s : Settings) where
  -- the part and the events from which these moments are told, with a send side that is paced so
  record From (g m n : ℕ) (later : List Moment) : Type 0 where
    part : Part
    events : List Event
    served : AtEach Served s part events
    told : history s part events ≡ later
    paced : Paced g m n part.berth.tx

  -- the ticks of these moments and n more are at least m, and after the frame the whole gap is before the next one
  to-frame : (g m n : ℕ) (ms : List Moment) (x : Moment) (later : List Moment) → m ≤ g → From g m n (ms ++ x ∷ later)
      → how_many goes ms ≡ 0 → T (hands_consecutive x) → (m ≤ how_many ticks_at ms + n) × From g g 0 later
  unfolding history AtEach how_many
  to-frame g m n ms x later small f = go ms f.part f.events n f.served f.told f.paced
    where
      go : (ms : List Moment) (p : Part) (es : List Event) (n : ℕ) → AtEach Served s p es → history s p es ≡ ms ++ x ∷ later → Paced g m n p.berth.tx
          → how_many goes ms ≡ 0 → T (hands_consecutive x) → (m ≤ how_many ticks_at ms + n) × From g g 0 later
      go [] p [] n v w q z t = let no : ◌≡◌ {A = ℕ} 0 1 = cc in absurd (omega arith)
      go [] p (e ∷ es) n v w q z t =
          let same : moment_of s p e ≡ x = cc in
          let rest : history s (part_after s p e) es ≡ later = cc in
          let (most, after) = paced-frame s p g m n e v.0 (subst (λ (y : Moment). T (hands_consecutive y)) (sym same) t) q in
          (omega (arith, most), record { part = part_after s p e; events = es; served = v.1; told = rest; paced = after })
      go (y ∷ ms) p [] n v w q z t = let no : ◌≡◌ {A = ℕ} 0 1 = cc in absurd (omega arith)
      go (y ∷ ms) p (e ∷ es) n v w q z t =
          let same : moment_of s p e ≡ y = cc in
          let rest : history s (part_after s p e) es ≡ ms ++ x ∷ later = cc in
          let (not-Going, none) = none_of goes y ms z in
          let now = paced-after s p g m n e small (subst (λ (y : Moment). T (not (goes y))) (sym same) not-Going) q in
          let (most, after) = go ms (part_after s p e) es (one (ticks_at (moment_of s p e)) + n) v.1 rest now none t in
          (omega (arith, most, ap (λ (y : Moment). one (ticks_at y)) same), after)

  -- a message that was taken has no consecutive frame before a Going, so none was taken on the way
  no-send : (ms : List Moment) (x : Moment) (later : List Moment) (p : Part) (es : List Event) → AtEach Served s p es → history s p es ≡ ms ++ x ∷ later
      → how_many goes ms ≡ 0 → T (hands_consecutive x) → how_many sends_at ms ≡ 0
  unfolding history AtEach how_many
  no-send [] x later p es v w z t = refl
  no-send (y ∷ ms) x later p [] v w z t = let no : ◌≡◌ {A = ℕ} 0 1 = cc in absurd (omega arith)
  no-send (y ∷ ms) x later p (e ∷ es) v w z t =
      let same : moment_of s p e ≡ y = cc in
      let rest : history s (part_after s p e) es ≡ ms ++ x ∷ later = cc in
      let none = (none_of goes y ms z).1 in
      omega (arith, ap (λ (y : Moment). one (sends_at y)) (sym same), not-sent e v.1 rest none, no-send ms x later (part_after s p e) es v.1 rest none t)
    where
      not-sent : (e : Event) → AtEach Served s (part_after s p e) es → history s (part_after s p e) es ≡ ms ++ x ∷ later → how_many goes ms ≡ 0
          → one (sends_at (moment_of s p e)) ≡ 0
      not-sent (arrives d) u r none = refl
      not-sent ticks u r none = refl
      not-sent turns u r none = refl
      not-sent (changes parameter value) u r none = refl
      not-sent (sends party m) u r none =
          let g = how_many ticks_at ms + 1 in
          let begun : Paced g g 0 (part_after s p (sends party m)).berth.tx = unfold part_after state_after sent in (begins-paced g g 0 (length m) party) in
          let (most, after) = to-frame g g 0 ms x later (omega arith) (record { part = part_after s p (sends party m); events = es; served = u; told = r; paced = begun }) none t in
          absurd (omega (arith, most))

  -- ---- from the Going on

  from-going : (ms : List Moment) (x : Moment) (later : List Moment) (p : Part) (es : List Event) → AtEach Served s p es → history s p es ≡ ms ++ x ∷ later
      → T (goes x) → From (gap_of (stmin_in x.event)) 0 0 later
  unfolding history AtEach
  from-going [] x later p [] v w t = let no : ◌≡◌ {A = ℕ} 0 1 = cc in absurd (omega arith)
  from-going [] x later p (e ∷ es) v w t =
      let same : moment_of s p e ≡ x = cc in
      let rest : history s (part_after s p e) es ≡ later = cc in
      let q = paced-going s p e (subst (λ (y : Moment). T (goes y)) (sym same) t) in
      record {
        part = part_after s p e;
        events = es;
        served = v.1;
        told = rest;
        paced = subst (λ (y : Moment). Paced (gap_of (stmin_in y.event)) 0 0 (part_after s p e).berth.tx) same q;
      }
  from-going (y ∷ ms) x later p [] v w t = let no : ◌≡◌ {A = ℕ} 0 1 = cc in absurd (omega arith)
  from-going (y ∷ ms) x later p (e ∷ es) v w t =
      let rest : history s (part_after s p e) es ≡ ms ++ x ∷ later = cc in
      from-going ms x later (part_after s p e) es v.1 rest t

-- ---- time

ticking-from : (interval t end : ℕ) (times : List ℕ) (n : ℕ) → n ≤ length times → TickingFrom interval t end times → t + n * interval ≤ end
ticking-from interval t end [] zero l k = omega (arith, k, zero-mul interval)
ticking-from interval t end [] (suc n) l k = absurd (omega arith)
ticking-from interval t end (u ∷ times) zero l k =
    omega (arith, k.0, zero-mul interval, ticking-from interval u end times zero (omega arith) k.1)
ticking-from interval t end (u ∷ times) (suc n) l k =
    omega (arith, k.0, suc-mul n interval, ticking-from interval u end times n (omega arith) k.1)

-- more than n ticks make n whole intervals; no ticks make none
ticking : (interval start end : ℕ) (times : List ℕ) (n : ℕ) → (0 < n → n + 1 ≤ length times) → Ticking interval start end times → start + n * interval ≤ end
ticking interval start end [] zero l k = omega (arith, k, zero-mul interval)
ticking interval start end [] (suc n) l k = absurd (omega (arith, l (omega arith)))
ticking interval start end (t ∷ times) zero l k = omega (arith, k.0, zero-mul interval, ticking-from interval t end times zero (omega arith) k.1)
ticking interval start end (t ∷ times) (suc n) l k =
    let more = l (omega arith) in
    omega (arith, k.0, ticking-from interval t end times (suc n) (omega (arith, more)) k.1)

-- ---- the law

spaced : (s : Settings) (p : Part) (es : List Event) → AtEach Served s p es → (f : TwoFrames (history s p es)) → Spaced f
spaced s p es v f =
    let g = gap_of (stmin_in f.going.event) in
    let start = from-going s f.earlier f.going (f.since ++ (f.first ∷ f.between ++ f.second ∷ f.later)) p es v f.splits f.is-going in
    let (most, first) = to-frame s g 0 0 f.since f.first (f.between ++ f.second ∷ f.later) (omega arith) start f.none-since f.first-hands in
    let (gone, second) = to-frame s g g 0 f.between f.second f.later (omega arith) first f.none_between f.second-hands in
    let enough : 0 < asked f → asked f + 1 ≤ how_many ticks_at f.between = λ some. omega (arith, gone, gap-longer (stmin_in f.going.event) some) in
    record {
      one-message = no-send s f.between f.second f.later first.part first.events first.served first.told f.none_between f.second-hands;
      enough = enough;
      time = λ interval start end times same k. ticking interval start end times (asked f) (λ some. omega (arith, enough some, same)) k;
    }

-- THE LAW OF THE GAPS. Take any run of the six calls, from any start, and two consecutive frames that a berth hands over in it with no frame
-- answered Going between them. They are of one message. If the last Going carried an STmin that means n > 0 ticks, at least
-- n + 1 ticks are answered between the two; hence n whole tick intervals pass, whatever the moment of the first tick. A node out of order
-- hands over no frame.
pub run-spaced : (k : ℕ) (h : Held) (cs : List Call) (f : TwoFrames (history_of k h cs)) → Spaced f
run-spaced k h cs =
    subst (λ (ms : List Moment). (f : TwoFrames ms) → Spaced f) (sym (history-is k h cs))
    (spaced h.node.settings (part_of k h) (owns k h cs) (served-run k h cs))
