-- Isolation shuts out the first four poor nodes again. Isolation of a run, and of the run with one call more, says of that call that its
-- answer and what it leaves of berth k are what k's own event says and leaves on that berth alone; each poor node's are another's.
use Prim.Native.Nat.{ℕ, zero, suc, ◌+◌, ◌≤◌, ◌<◌}
use native.Mathlib.Omega.{arith}
use mathlib.Core.Path.{◌≡◌, refl, sym, ap, ap₂, ◌∙◌}
use mathlib.Core.Bool.{Bool, true, false, ◌&&◌}
use mathlib.Core.List.{List, [], ◌∷◌, ◌++◌, append_assoc, append-nil, append_cancel_left}
use lib.ListN.{length, take, drop, length-take}
use lib.Dec.{T, eqb, ltb}
use Rattle.rules.specs.Tests.{pick, unless}
use Rattle.rules.specs.Numbers.{berth_count, single_kind, first_kind, consecutive_kind, first_bytes}
use Rattle.rules.specs.Nodes.{berth_at, Held, with_node}
use Rattle.rules.specs.Frames.{kind, low, announced, first_fits, consecutive_fits}
use Rattle.rules.specs.Arrivals.{Heard, ignored, above_area, turned_away, begun, first_came, missing, piece, Came, heard_by, by_kind, frame_came}
use Rattle.rules.specs.Changes.{changed_settings, changed}
use Rattle.rules.specs.Events.{Call, frame, tick, send, turn, show, change, sender_of, Event, arrives, ticks, sends, turns, changes}
use Rattle.rules.specs.Stores.{passed_over, reached, came_at}
use Rattle.rules.specs.Answers.{refused}
use Rattle.rules.specs.Refusals.{refusal}
use Rattle.rules.specs.Alone.{Part, part_of, Says, state_after, part_after, says, alone, says_all}
use Rattle.rules.specs.declared.Settings.{Settings}
use Rattle.rules.specs.declared.BerthSettings.{BerthSettings}
use Rattle.rules.specs.declared.Taking.{Taking}
use Rattle.rules.specs.declared.Party.{Party}
use Rattle.rules.specs.declared.Rx.{Rx}
use Rattle.rules.specs.declared.Tx.{Tx}
use Rattle.rules.specs.declared.Berth.{Berth}
use Rattle.rules.specs.declared.Node.{Node}
use Rattle.rules.proofs.Cases.{Tested, holds, fails, eqb-cases, pick-either}
use Rattle.rules.proofs.Ranges.{in-order-range}
use Rattle.rules.proofs.Areas.{area-length}
use Rattle.rules.proofs.Answered.{frame-answered, send-answered}
use Rattle.rules.proofs.Inside.{answered-inside}
use Rattle.rules.proofs.Facts.{consecutive-came}
use Rattle.node.proofs.PoorNodes.{still-idle, stood-before}
use Rattle.laws.specs.Own.{over, own_done, own, says_of, fresh_part}
use Rattle.laws.proofs.Isolation.{alone-append, says-append}
use Rattle.runs.specs.Chains.{Made, AfterSetUp, said_by, left_by, own_in, OneMore}
use Rattle.runs.proofs.Runs.{chain-front, chain-alone-after-set-up}

-- two numbers that are not the same
clash : {X : Type 0} → ◌≡◌ {A = ℕ} 0 1 → X
clash e = absurd (omega arith)

-- ---- one call more

left-more : (h : Held) (ms : List Made) (m : Made) → left_by h (ms ++ m ∷ []) ≡ m.out.held
unfolding left_by
left-more h [] m = refl
left-more h (x ∷ ms) m = left-more x.out.held ms m

module _ (k : ℕ) where
  own-more : (h : Held) (ms : List Made) (m : Made) → own_in k h (ms ++ m ∷ []) ≡ own_in k h ms ++ own k (left_by h ms) m.call
  unfolding own_in left_by
  own-more h [] m = append-nil _
  own-more h (x ∷ ms) m = ap (λ (es : List Event). own k h x.call ++ es) (own-more x.out.held ms m) ∙ sym (append_assoc (own k h x.call) _ _)

  said_more : (ms : List Made) (m : Made) → over (says_of k) (said_by (ms ++ m ∷ [])) ≡ over (says_of k) (said_by ms) ++ says_of k m.out.answer
  unfolding over
  said_more [] m = append-nil _
  said_more (x ∷ ms) m = ap (λ (r : List Says). says_of k x.out.answer ++ r) (said_more ms m) ∙ sym (append_assoc (says_of k x.out.answer) _ _)

module _ {h : Held} {s : Settings} {alike : BerthSettings} {n : Node} {ms : List Made} {k : ℕ} {p : Part} {e : Event} {m : Made} (r : OneMore h s alike n ms k p e m) where
  own-now : own_in k (with_node h n) (ms ++ m ∷ []) ≡ own_in k (with_node h n) ms ++ (e ∷ [])
  own-now = own-more k (with_node h n) ms m ∙ ap (λ (es : List Event). own_in k (with_node h n) ms ++ es) r.its

  -- what the events before it made of the berth
  part-before : alone s (fresh_part h s alike k) (own_in k (with_node h n) ms) ≡ p
  part-before = sym (r.without k r.small).part ∙ r.given

  -- DEMAND 3 OF ONE CALL: the berth's part after it is what its own event makes of it alone,
  pub part-now : part_of k m.out.held ≡ part_after s p e
  unfolding alone
  part-now =
      ap (part_of k) (sym (left-more (with_node h n) ms m)) ∙ (r.with k r.small).part ∙ ap (alone s _) own-now
      ∙ alone-append s _ (own_in k (with_node h n) ms) (e ∷ []) ∙ ap (λ (q : Part). part_after s q e) part-before

  -- and its answer says of the berth what its own event says alone
  pub says-now : says_of k m.out.answer ≡ says s p e ∷ []
  unfolding says_all
  says-now =
      append_cancel_left (over (says_of k) (said_by ms)) _ _
      (sym (said_more k ms m) ∙ (r.with k r.small).says ∙ ap (says_all s _) own-now ∙ says-append s _ (own_in k (with_node h n) ms) (e ∷ [])
      ∙ ap₂ (λ (l : List Says) (q : Part). l ++ (says s q e ∷ [])) (sym (r.without k r.small).says) part-before)

  -- REFUSING, AGAIN: no event of a berth's own is answered with a refusal
  pub refusing-again : (number : ℕ) → m.out.answer ≡ refused number → ⊥
  unfolding says_of
  refusing-again number a = let z : [] ≡ says s p e ∷ [] = sym (ap (says_of k) a) ∙ says-now in clash (cc)

-- ---- what the call is, and that its bytes fit

-- the bytes of a frame that comes in lie within the first a bytes of an area
abbrev Within : ℕ → ℕ → List ℕ → Type 0
Within a place bytes = place + length bytes ≤ a

-- one choice by the same test as another
pick-both : {X : Type 0} (P : X → Type 0) (b : Bool) {x y v w : X} → (P x → P v) → (P y → P w) → P (pick b x y) → P (pick b v w)
pick-both P true f g = f
pick-both P false f g = g

-- of the settings only A bears on which bytes are stored, and only so that a first frame stores its six or none
module _ (a : ℕ) (six : first_bytes ≤ a) (s t : Settings) where
  -- of what a receive side hears
  abbrev Hears : Heard → Type 0
  Hears c = Within a c.place c.bytes

  -- a first frame stores at most six bytes, at the front
  first-within : (rx : Rx) (last : ℕ) (d : List ℕ) → Hears (first_came s rx last d)
  unfolding first_came ignored turned_away begun
  first-within rx last d =
      pick-either Hears (first_fits d) _ _
      (λ u. pick-either Hears (above_area s (announced d)) _ _ (λ v. omega arith) (λ v. omega (arith, length-take first_bytes (drop 2 d))))
      (λ u. omega arith)

  -- so bytes that fit under some settings fit under any
  came-within : (b : Berth) (d : List ℕ) → Within a (frame_came t b d).place (frame_came t b d).bytes → Within a (frame_came s b d).place (frame_came s b d).bytes
  unfolding frame_came by_kind heard_by
  came-within b d =
      let F : Came → Type 0 = λ c. Within a c.place c.bytes in
      pick-both F (eqb (length d) 0) (λ w. w)
      (pick-both F (eqb (kind d) single_kind) (λ w. w)
      (pick-both F (eqb (kind d) first_kind) (λ w. first-within b.rx b.last d) (λ w. w)))

-- a call with an event of one kind has none of another
not-other : (e f : Event) → (e ≡ f → ⊥) → (b : Bool) → pick b (e ∷ []) [] ≡ f ∷ [] → ⊥
not-other e f ne true q = ne (cc)
not-other e f ne false q = clash (cc)

module _ (k : ℕ) (g : Held) where
  -- a call with an event of the berth's own is answered
  own-answered : (c : Call) {e : Event} → own k g c ≡ e ∷ [] → (refusal g c ≡ 0) × (own_done k g c ≡ e ∷ [])
  unfolding own
  own-answered c {e} = go (refusal g c)
    where
      go : (number : ℕ) → unless number (λ n. []) (own_done k g c) ≡ e ∷ [] → (number ≡ 0) × (own_done k g c ≡ e ∷ [])
      go zero q = (refl, q)
      go (suc number) q = clash (cc)

  -- a frame of the berth's own came in under its identifier
  own-frame : (c : Call) (d : List ℕ) → own_done k g c ≡ arrives d ∷ [] → (id : ℕ) × (sender_of id ≡ k) × (c ≡ frame id d)
  unfolding own_done
  own-frame (frame id x) d q = go (eqb-cases (sender_of id) k) q
    where
      go : Tested (eqb (sender_of id) k) (sender_of id ≡ k) (sender_of id ≡ k → ⊥) → pick (eqb (sender_of id) k) (arrives x ∷ []) [] ≡ arrives d ∷ []
          → (i : ℕ) × (sender_of i ≡ k) × (frame id x ≡ frame i d)
      go (holds t e) q = let z : arrives x ∷ [] ≡ arrives d ∷ [] = rw t at q in (id, e, cc)
      go (fails t e) q = let z : [] ≡ arrives d ∷ [] = rw t at q in clash (cc)
  own-frame tick d q = clash (cc)
  own-frame (send j party m) d q = absurd (not-other (sends (record { 0 = party }) m) (arrives d) (λ e. clash (cc)) (eqb j k) q)
  own-frame (turn buffer) d q = absurd (not-other turns (arrives d) (λ e. clash (cc)) (ltb (passed_over g.node) berth_count && eqb (reached g.node) k) q)
  own-frame (show j choice) d q = clash (cc)
  own-frame (change j parameter value) d q = absurd (not-other (changes parameter value) (arrives d) (λ e. clash (cc)) (eqb j k) q)

  -- a message of the berth's own was sent to it
  own-send : (c : Call) (by : Party) (v : List ℕ) → own_done k g c ≡ sends by v ∷ [] → c ≡ send k by.0 v
  unfolding own_done
  own-send (frame id x) by v q = absurd (not-other (arrives x) (sends by v) (λ e. clash (cc)) (eqb (sender_of id) k) q)
  own-send tick by v q = clash (cc)
  own-send (send j party m) by v q = go (eqb-cases j k) q
    where
      go : Tested (eqb j k) (j ≡ k) (j ≡ k → ⊥) → pick (eqb j k) (sends (record { 0 = party }) m ∷ []) [] ≡ sends by v ∷ [] → send j party m ≡ send k by.0 v
      go (holds t e) q =
          let z : sends (record { 0 = party }) m ∷ [] ≡ sends by v ∷ [] = rw t at q in
          let named : record { 0 = party } ≡ by = cc in
          let same : party ≡ by.0 = ap (λ (p : Party). p.0) named in
          cc
      go (fails t e) q = let z : [] ≡ sends by v ∷ [] = rw t at q in clash (cc)
  own-send (turn buffer) by v q = absurd (not-other turns (sends by v) (λ e. clash (cc)) (ltb (passed_over g.node) berth_count && eqb (reached g.node) k) q)
  own-send (show j choice) by v q = clash (cc)
  own-send (change j parameter value) by v q = absurd (not-other (changes parameter value) (sends by v) (λ e. clash (cc)) (eqb j k) q)

  -- so its bytes fit the berth's area, under any settings
  frame-within : (c : Call) (d : List ℕ) (s : Settings) → k < berth_count → own k g c ≡ arrives d ∷ []
      → Within (length (part_of k g).incoming) (frame_came s (part_of k g).berth d).place (frame_came s (part_of k g).berth d).bytes
  unfolding part_of came_at
  frame-within c d s small its =
      let (e, done) = own-answered c its in
      let (id, mine, is) = own-frame c d done in
      let ok = frame-answered g id d (rw is at e) in
      let fits = rw mine at (answered-inside g id d (rw is at e)) in
      let least = (in-order-range g.node ok.order).settings.area-least in
      let room = area-length g.node.settings.area k g.incoming small ok.store in
      rw room (came-within g.node.settings.area (omega arith) s g.node.settings (berth_at g.node k) d fits)

  -- and so does its message
  message-within : (c : Call) (by : Party) (v : List ℕ) → own k g c ≡ sends by v ∷ [] → length v ≤ length (part_of k g).outgoing
  unfolding part_of
  message-within c by v its =
      let (e, done) = own-answered c its in
      let ok = send-answered g k by.0 v (rw (own-send c by v done) at e) in
      let room = area-length g.node.settings.area k g.outgoing ok.mine ok.store in
      omega (arith, ok.fits)

module _ {h : Held} {s : Settings} {alike : BerthSettings} {n : Node} {ms : List Made} {k : ℕ} {p : Part} {m : Made} where
  -- DOING NOTHING, AGAIN: a tick of a berth with a side that is not idle does not leave the berth as it was,
  pub idle-again-timers : OneMore h s alike n ms k p ticks m → ((p.berth.rx ≡ Rx.Idle) × (p.berth.tx ≡ Tx.Idle) → ⊥)
      → (part_of k m.out.held).berth ≡ p.berth → ⊥
  unfolding state_after part_after
  idle-again-timers r busy same = busy (still-idle p.berth (sym (ap (λ (q : Part). q.berth) (part-now r)) ∙ same))

  -- nor does a frame whose bytes differ from those at their place leave the berth's incoming area,
  pub idle-again-bytes : (d : List ℕ) → OneMore h s alike n ms k p (arrives d) m
      → (take (length (frame_came s p.berth d).bytes) (drop (frame_came s p.berth d).place p.incoming) ≡ (frame_came s p.berth d).bytes → ⊥)
      → (part_of k m.out.held).incoming ≡ p.incoming → ⊥
  unfolding state_after part_after
  idle-again-bytes d r differ same =
      let fits = rw r.given at (frame-within k (left_by (with_node h n) ms) m.call d s r.small r.its) in
      differ (stood-before p.incoming _ _ fits (sym (ap (λ (q : Part). q.incoming) (part-now r)) ∙ same))

  -- nor a send whose message differs from the bytes at the front leave the outgoing one
  pub idle-again-message : (by : Party) (v : List ℕ) → OneMore h s alike n ms k p (sends by v) m → (take (length v) p.outgoing ≡ v → ⊥)
      → (part_of k m.out.held).outgoing ≡ p.outgoing → ⊥
  unfolding state_after part_after
  idle-again-message by v r differ same =
      let fits = rw r.given at (message-within k (left_by (with_node h n) ms) m.call by v r.its) in
      differ (stood-before p.outgoing 0 v (omega arith) (sym (ap (λ (q : Part). q.outgoing) (part-now r)) ∙ same))

  -- nor a change to another value leave the berth's settings
  pub idle-again-settings : (parameter value : ℕ) → OneMore h s alike n ms k p (changes parameter value) m
      → (changed_settings p.berth.settings parameter value ≡ p.berth.settings → ⊥)
      → (part_of k m.out.held).berth.settings ≡ p.berth.settings → ⊥
  unfolding state_after part_after changed
  idle-again-settings parameter value r differ same = differ (sym (ap (λ (q : Part). q.berth.settings) (part-now r)) ∙ same)

  -- COUNTING, AGAIN: so a right awaited consecutive frame does not leave the area
  pub counting-again : (d : List ℕ) (q : Taking) (t : ℕ) → OneMore h s alike n ms k p (arrives d) m
      → p.berth.rx ≡ Rx.Awaits q t → kind d ≡ consecutive_kind → T (consecutive_fits (missing q) d) → low d ≡ q.sn.0
      → (take (length (piece q d)) (drop q.got p.incoming) ≡ piece q d → ⊥)
      → (part_of k m.out.held).incoming ≡ p.incoming → ⊥
  counting-again d q t r awaits c f l differ =
      let (at, bytes) = consecutive-came s p.berth q t d awaits c f l in
      idle-again-bytes d r (rw (at, bytes) differ)

-- A FIXED ANSWER, AGAIN: two calls of which the rules say otherwise on the berth alone are not answered the same, and two of which they
-- leave otherwise do not leave the same area
module _ {h g : Held} {s t : Settings} {alike other : BerthSettings} {n o : Node} {ms ls : List Made} {k : ℕ} {p q : Part} {e f : Event} {m l : Made}
    (r : OneMore h s alike n ms k p e m) (x : OneMore g t other o ls k q f l) where
  pub fixed-again : (says s p e ≡ says t q f → ⊥) → m.out.answer ≡ l.out.answer → ⊥
  fixed-again differ same =
      let z : says s p e ∷ [] ≡ says t q f ∷ [] = sym (says-now r) ∙ ap (says_of k) same ∙ says-now x in
      differ (cc)

  pub fixed-again-bytes : ((part_after s p e).incoming ≡ (part_after t q f).incoming → ⊥) → (part_of k m.out.held).incoming ≡ (part_of k l.out.held).incoming → ⊥
  fixed-again-bytes differ same =
      differ (ap (λ (y : Part). y.incoming) (sym (part-now r)) ∙ same ∙ ap (λ (y : Part). y.incoming) (part-now x))

-- ---- the code's calls

-- EVERY CALL OF THE CODE AFTER A SET-UP is such a call, so a chain in which one of the answers above stands is no run
pub one_more : {h : Held} {s : Settings} {alike : BerthSettings} {n : Node} (ms : List Made) (m : Made) (k : ℕ) (e : Event) → AfterSetUp h s alike n (ms ++ m ∷ []) → k < berth_count
    → own k (left_by (with_node h n) ms) m.call ≡ e ∷ [] → OneMore h s alike n ms k (part_of k (left_by (with_node h n) ms)) e m
one_more {h} {s} {alike} {n} ms m k e r l its =
    record {
      small = l;
      given = refl;
      its = its;
      without = chain-alone-after-set-up h s alike n ms (record { ready = r.ready; chain = chain-front (with_node h n) ms m r.chain });
      with = chain-alone-after-set-up h s alike n (ms ++ m ∷ []) r;
    }
