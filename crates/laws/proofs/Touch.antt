-- What one call does to one side of a berth, as the answers tell it: it spares the side, or it is a tick or a turn of that side alone,
-- or a frame for it; or it changes the settings, which go with the receive side.
use mathlib.Core.Path.{◌≡◌, refl, sym, ap, ap₂, ◌∙◌, subst}
use Prim.Native.Nat.{ℕ, zero, suc, ◌+◌, ◌≤◌, ◌<◌}
use native.Mathlib.Omega.{arith}
use mathlib.Core.Bool.{Bool, true, false, not, ◌&&◌, ◌||◌}
use mathlib.Core.List.{List, [], ◌∷◌, ◌++◌, append-nil}
use mathlib.Core.Logic.{◌⊎◌, inl, inr}
use lib.ListN.{length}
use lib.Seq.{sets}
use lib.Dec.{T, eqb, ltb, leb, le→leb, lt→ltb}
use mir.Facts.{eqb_yes, yes_eqb, yes_leb, yes_and}
use Rattle.rules.specs.Tests.{pick, Need, first_unmet}
use Rattle.rules.specs.Numbers.{berth_count, from_berth, frame_size, most_data, single_kind, first_kind, consecutive_kind, flow_kind, short_most}
use Rattle.rules.specs.Parties.{scheduler}
use Rattle.rules.specs.Nodes.{berth_at, Held}
use Rattle.rules.specs.Ranges.{BerthRange, InOrder}
use Rattle.rules.specs.Frames.{kind, single_fits, announced, first_fits}
use Rattle.rules.specs.Arrivals.{Heard, Told, Came, ignored, single_came, first_came, above_area, turned_away, begun, completed, took, wrong_sn, consecutive_came, flow_ignored, flow_came, heard_by, told_by, by_kind, frame_came}
use Rattle.rules.specs.Turns.{flow_due, due, hand_over}
use Rattle.rules.specs.Stores.{right_store, passed_over, reached, came_at, handed_at}
use Rattle.rules.specs.Answers.{Side, receive, send as send_side, Report, reported, word_reports}
use Rattle.rules.specs.Cards.{right_cards, under_way, zero_card}
use Rattle.rules.specs.Events.{Call, frame, tick, send, turn, show, change, sender_of, Event, arrives, ticks, sends, turns, changes}
use Rattle.rules.specs.Refusals.{needs, refusal}
use Rattle.rules.specs.Calls.{done, reply, refused_outcome, outcome}
use Rattle.rules.specs.Alone.{Part, part_of, Says, hears, state_after, part_after, says, alone, says_all}
use Rattle.rules.specs.Clocks.{tick_code}
use Rattle.rules.specs.declared.Settings.{Settings}
use Rattle.rules.specs.declared.BerthSettings.{BerthSettings}
use Rattle.rules.specs.declared.Rx.{Rx}
use Rattle.rules.specs.declared.Tx.{Tx}
use Rattle.rules.specs.declared.Berth.{Berth}
use Rattle.rules.specs.Words.{Word, Delivered, Begun, Failed, Ignored, TooLong, Took, Going, Waiting, reason_number}
use Rattle.rules.proofs.Cases.{Tested, holds, fails, test-cases, eqb-cases, ltb-cases, eqb_is, eqb-not, ltb-is, is_true, is_false, or_cases, or_left, or_right, pick-either}
use Rattle.rules.proofs.Ranges.{range-in-order}
use Rattle.rules.proofs.Answered.{change-answered}
use Rattle.rules.proofs.Round.{reached-due}
use Rattle.rules.proofs.Facts.{frame-either, told-either, ignored-leaves, consecutive-either}
use Rattle.rules.proofs.Handed.{due_kind, flow-kind, message-kind}
use Rattle.laws.specs.Own.{over, only, own_done, own, says_of, said_reports, Sound}
use Rattle.laws.specs.Sides.{same_side, uncounted, side_of, frame_side, turn_side, for_side, side_events, of_side, handed_in, handed_side, frames_by}
use Rattle.laws.specs.Line.{reports_by, delivered_in, begun_in, is_ignored, spares, Spares}
use Rattle.laws.proofs.Isolation.{said-to, part_step, says-step}
use Rattle.laws.proofs.Reports.{reports-of}
use Rattle.laws.proofs.Sides.{came_with_tx, came-receive, came-send, side-uncounted, uncounted-side, uncounted-after, side-alone, side-reports}

-- a whole frame has no more bytes than a frame that comes in may have
pub whole-heard : frame_size ≤ most_data
whole-heard = omega arith

-- ---- ignored frames change nothing, timers included, and have no old code

ignored-why : (w : Word) → T (is_ignored w) → (why : ℕ) × (w ≡ Ignored why)
ignored-why (Delivered n) t = absurd t
ignored-why (Begun n) t = absurd t
ignored-why (Failed c party) t = absurd t
ignored-why (Ignored why) t = (why, refl)
ignored-why TooLong t = absurd t
ignored-why Took t = absurd t
ignored-why Going t = absurd t
ignored-why Waiting t = absurd t

abbrev NoOld : Came → Type 0
NoOld c = T (is_ignored c.word) → c.old ≡ 0

abbrev NoOldHeard : Heard → Type 0
NoOldHeard h = T (is_ignored h.word) → h.old ≡ 0

ignored-old : (why : ℕ) (rx : Rx) (last : ℕ) → NoOldHeard (ignored why rx last)
unfolding ignored
ignored-old why rx last t = refl

single-old : (rx : Rx) (last : ℕ) (d : List ℕ) → NoOldHeard (single_came rx last d)
unfolding single_came
single-old rx last d = pick-either NoOldHeard (single_fits d) _ _ (λ u t. absurd t) (λ u. ignored-old 3 rx last)

first-old : (set : Settings) (rx : Rx) (last : ℕ) (d : List ℕ) → NoOldHeard (first_came set rx last d)
unfolding first_came turned_away begun
first-old set rx last d =
    pick-either NoOldHeard (first_fits d) _ _
    (λ u. pick-either NoOldHeard (above_area set (announced d)) _ _ (λ v t. absurd t) (λ v t. absurd t)) (λ u. ignored-old 3 rx last)

consecutive-old : (bs : ℕ) (rx : Rx) (last : ℕ) (d : List ℕ) → NoOldHeard (consecutive_came bs rx last d)
unfolding completed took wrong_sn
consecutive-old bs rx last d = consecutive-either NoOldHeard bs rx last d (λ why. ignored-old (reason_number why) rx last) (λ p t. refl) (λ p t. refl) (λ t. refl)

frame-old : (set : Settings) (b : Berth) (d : List ℕ) → NoOld (frame_came set b d)
unfolding heard_by told_by
frame-old set b d =
    frame-either NoOld set b d (λ why. ignored-old (reason_number why) b.rx b.last) (single-old b.rx b.last d) (first-old set b.rx b.last d)
    (consecutive-old b.settings.block b.rx b.last d) (λ t. refl)

frame-nothing : (b : Berth) (set : Settings) (d : List ℕ) → T (is_ignored (frame_came set b d).word)
    → ((frame_came set b d).berth ≡ b) × ((frame_came set b d).old ≡ 0) × ((frame_came set b d).bytes ≡ [])
frame-nothing b set d t =
    let (why, e) = ignored-why (frame_came set b d).word t in
    let (x, y) = ignored-leaves why set b d e in
    (x, frame-old set b d t, y)

-- EMPTY FRAMES AND KINDS 4 TO 15 are ignored, whatever the berth's state, so they spare both sides of every berth
noise-ignored : (set : Settings) (b : Berth) (d : List ℕ) → (length d ≡ 0) ⊎ (flow_kind < kind d) → T (is_ignored (frame_came set b d).word)
unfolding frame_came by_kind heard_by ignored
noise-ignored set b d (inl e) = rw (eqb_is (length d) 0 e) tt
noise-ignored set b d (inr h) =
    rw (eqb-not (kind d) single_kind (λ e. omega arith), eqb-not (kind d) first_kind (λ e. omega arith), eqb-not (kind d) consecutive_kind (λ e. omega arith), eqb-not (kind d) flow_kind (λ e. omega arith))
    (pick-either (λ (c : Came). T (is_ignored c.word)) (eqb (length d) 0) _ _ (λ t. tt) (λ t. tt))

pub noise-spares : (s : Side) (k : ℕ) (h : Held) (id : ℕ) (d : List ℕ) → (length d ≡ 0) ⊎ (flow_kind < kind d) → Spares s k h (frame id d)
unfolding spares came_at
noise-spares s k h id d n e = or_right (not (eqb (sender_of id) k)) _ (or_left (is_ignored (came_at h k d).word) _ (noise-ignored h.node.settings (berth_at h.node k) d n))

-- neither a Delivered nor a Begun is said
abbrev pub Neither : List Says → Type 0
Neither xs = (over delivered_in xs ≡ []) × ((any : BerthSettings) → over (begun_in any) xs ≡ [])

-- no report and neither of these in an ignored frame's answer
ignored-reports : (k : ℕ) (w : Word) → T (is_ignored w) → word_reports k w ≡ []
unfolding word_reports
ignored-reports k w t = rw (ignored-why w t).1

ignored-neither : (old : ℕ) (w : Word) → T (is_ignored w) → Neither (hears old w ∷ [])
unfolding over delivered_in begun_in
ignored-neither old w t = rw (ignored-why w t).1 (refl, λ any. refl)

-- nor in that of flow control
abbrev NeitherTold : Told → Type 0
NeitherTold t = (old : ℕ) → Neither (hears old t.word ∷ [])

flow-neither : (tx : Tx) (d : List ℕ) → NeitherTold (flow_came tx d)
unfolding flow_ignored over delivered_in begun_in
flow-neither tx d =
    told-either NeitherTold tx d (λ why old. (refl, λ any. refl)) (λ o party old. (refl, λ any. refl)) (λ o party old. (refl, λ any. refl)) (λ code party old. (refl, λ any. refl))

-- ---- the frame handed over says whose turn it was

due-not-flow : (tx : Tx) → due_kind tx ≡ flow_kind → ⊥
due-not-flow Tx.Idle e = omega arith
due-not-flow (Tx.SingleDue party n u) e = omega arith
due-not-flow (Tx.FirstDue party n u) e = omega arith
due-not-flow (Tx.AwaitsFlow party o u) e = omega arith
due-not-flow (Tx.Consecutive party o u) e = omega arith

pub handed-side : (set : Settings) (p : Part) → set.area ≤ short_most → BerthRange set p.berth → T (due p.berth)
    → handed_side (hand_over p.berth p.outgoing).frame ≡ turn_side p
unfolding handed_side turn_side hand_over due
handed-side set p a r t = go (test-cases (flow_due p.berth.rx))
  where
    go : Tested (flow_due p.berth.rx) (T (flow_due p.berth.rx)) (T (not (flow_due p.berth.rx)))
        → handed_side (hand_over p.berth p.outgoing).frame ≡ turn_side p
    go (holds e u) = rw (e, eqb_is _ _ (flow-kind p.berth.settings p.berth.rx u))
    go (fails e u) = rw (e, eqb-not _ _ (λ k. due-not-flow p.berth.tx (sym (message-kind set p.berth.tx p.outgoing a r.send (rw e at t)) ∙ k)))

-- ---- which frames are flow control

not-flow : (d : List ℕ) → frame_side d ≡ receive → kind d ≡ flow_kind → ⊥
unfolding frame_side
not-flow d e q = let z : ◌≡◌ {A = ℕ} 0 1 = cc (rw (eqb_is (kind d) flow_kind q) at e) in omega arith

is-flow : (d : List ℕ) → T (not (same_side receive (frame_side d))) → kind d ≡ flow_kind
unfolding frame_side
is-flow d t = go (eqb-cases (kind d) flow_kind)
  where
    go : Tested (eqb (kind d) flow_kind) (kind d ≡ flow_kind) (kind d ≡ flow_kind → ⊥) → kind d ≡ flow_kind
    go (holds u e) = e
    go (fails u ne) = absurd (rw u at t)

-- ---- a call whose needs are all met is answered

abbrev AllMet : List Need → Type 0
AllMet [] = Unit {0}
AllMet (n ∷ ns) = T n.met × AllMet ns

pub all-met : (ns : List Need) → AllMet ns → first_unmet ns ≡ 0
unfolding first_unmet
all-met [] t = refl
all-met (n ∷ ns) t = rw (is_true n.met t.0) (all-met ns t.1)

-- a tick is answered where the node is in order and the list is ten long, whatever the stores
pub tick-met : (h : Held) → InOrder h.node → length h.cards ≡ berth_count → refusal h tick ≡ 0
unfolding refusal needs right_cards
tick-met h order ten = all-met (needs h tick) (range-in-order h.node order, (yes_eqb ten, tt))

-- ---- the events of a side in one call

module _ (k : ℕ) (h : Held) where
  abbrev set : Settings
  set = h.node.settings

  -- the reports of side s of berth k in the answer are those that its own events say on that side alone
  reports-by : (s : Side) (c : Call)
      → reports_by s k (outcome h c).answer ≡ over (said_reports k) (says_all set (side_of s (part_of k h)) (side_events s set (part_of k h) (own k h c)))
  reports-by s c =
      ap (of_side s) (reports-of k (outcome h c).answer ∙ ap (over (said_reports k)) (says-step k h c))
      ∙ side-reports set k s (part_of k h) (own k h c)

  side-step : (s : Side) (c : Call)
      → side_of s (part_of k (outcome h c).held) ≡ uncounted (alone set (side_of s (part_of k h)) (side_events s set (part_of k h) (own k h c)))
  side-step s c = ap (side_of s) (part_step k h c) ∙ side-alone set s (part_of k h) (own k h c)

  -- no event of the side
  untouched : (s : Side) (c : Call) (es : List Event) → own k h c ≡ es → side_events s set (part_of k h) es ≡ []
      → (side_of s (part_of k (outcome h c).held) ≡ side_of s (part_of k h)) × (reports_by s k (outcome h c).answer ≡ [])
  untouched s c es o e =
      let q : side_events s set (part_of k h) (own k h c) ≡ [] = ap (side_events s set (part_of k h)) o ∙ e in (
        side-step s c ∙ ap (λ es. uncounted (alone set (side_of s (part_of k h)) es)) q ∙ unfold alone in (side-uncounted s (part_of k h)),
        reports-by s c ∙ ap (λ es. over (said_reports k) (says_all set (side_of s (part_of k h)) es)) q ∙ unfold says_all over in refl,
      )

  -- one event of the side
  touched : (s : Side) (c : Call) (e : Event) → own k h c ≡ e ∷ [] → side_events s set (part_of k h) (e ∷ []) ≡ e ∷ []
      → (side_of s (part_of k (outcome h c).held) ≡ state_after set (side_of s (part_of k h)) e)
      × (reports_by s k (outcome h c).answer ≡ said_reports k (says set (side_of s (part_of k h)) e))
  touched s c e o f =
      let q : side_events s set (part_of k h) (own k h c) ≡ e ∷ [] = ap (side_events s set (part_of k h)) o ∙ f in (
        side-step s c
            ∙ ap (λ es. uncounted (alone set (side_of s (part_of k h)) es)) q
            ∙ unfold alone in (uncounted-after set (side_of s (part_of k h)) e)
            ∙ ap (λ (p : Part). state_after set p e) (side-uncounted s (part_of k h)),
        reports-by s c ∙ ap (λ es. over (said_reports k) (says_all set (side_of s (part_of k h)) es)) q ∙ unfold says_all over in (append-nil _),
      )

  -- a frame that is ignored
  ignored-part : (d : List ℕ) → T (is_ignored (came_at h k d).word) → uncounted (alone set (part_of k h) (arrives d ∷ [])) ≡ uncounted (part_of k h)
  unfolding came_at alone state_after part_after part_of
  ignored-part d t =
      let (x, y, z) = frame-nothing (berth_at h.node k) set d t in
      λ i. record {
        berth = x i;
        incoming = sets (part_of k h).incoming (frame_came set (berth_at h.node k) d).place (z i);
        outgoing = (part_of k h).outgoing;
        card = zero_card;
      }

  ignored-said : (d : List ℕ) → T (is_ignored (came_at h k d).word) → over (said_reports k) (says_all set (part_of k h) (arrives d ∷ [])) ≡ []
  unfolding came_at says_all says over said_reports part_of reported
  ignored-said d t =
      let (x, y, z) = frame-nothing (berth_at h.node k) set d t in
      append-nil _
      ∙ ap₂ (λ (m : ℕ) (rs : List Report). reported k receive m scheduler ++ rs) y (ignored-reports k (frame_came set (berth_at h.node k) d).word t)

  passed-by : (s : Side) (c : Call) (d : List ℕ) → own k h c ≡ arrives d ∷ [] → T (is_ignored (came_at h k d).word)
      → (side_of s (part_of k (outcome h c).held) ≡ side_of s (part_of k h)) × (reports_by s k (outcome h c).answer ≡ [])
  unfolding of_side only
  passed-by s c d o t = (
    sym (uncounted-side s (part_of k (outcome h c).held))
        ∙ ap (side_of s) (ap uncounted (part_step k h c ∙ ap (alone set (part_of k h)) o) ∙ ignored-part d t)
        ∙ uncounted-side s (part_of k h),
    ap (of_side s) (reports-of k (outcome h c).answer ∙ ap (over (said_reports k)) (says-step k h c ∙ ap (says_all set (part_of k h)) o) ∙ ignored-said d t),
  )

  -- what a call that spares the side does to it: nothing, a tick of it, a turn of it, or a change of its settings while no reception is under way
  pub record SparedBy (s : Side) (c : Call) : Type 0 where
    pub part : side_of s (part_of k (outcome h c).held) ≡ side_of s (part_of k h)
    pub reported : reports_by s k (outcome h c).answer ≡ []
    pub frames : frames_by s k (outcome h c).answer ≡ []

  pub record TickOf (s : Side) (c : Call) : Type 0 where
    pub part : side_of s (part_of k (outcome h c).held) ≡ state_after set (side_of s (part_of k h)) ticks
    pub reported : reports_by s k (outcome h c).answer ≡ said_reports k (says set (side_of s (part_of k h)) ticks)
    pub frames : frames_by s k (outcome h c).answer ≡ []
    pub none : tick_code s (side_of s (part_of k h)).berth ≡ 0

  pub record TurnOf (s : Side) (c : Call) : Type 0 where
    pub is-due : T (due (side_of s (part_of k h)).berth)
    pub part : side_of s (part_of k (outcome h c).held) ≡ state_after set (side_of s (part_of k h)) turns
    pub reported : reports_by s k (outcome h c).answer ≡ said_reports k (says set (side_of s (part_of k h)) turns)
    pub frames : frames_by s k (outcome h c).answer ≡ handed_in (says set (side_of s (part_of k h)) turns)

  pub record ChangeOf (s : Side) (c : Call) : Type 0 where
    pub its : T (same_side s receive)
    pub free : T (not (under_way (berth_at h.node k).rx))
    pub parameter : ℕ
    pub value : ℕ
    pub part : side_of s (part_of k (outcome h c).held) ≡ state_after set (side_of s (part_of k h)) (changes parameter value)
    pub reported : reports_by s k (outcome h c).answer ≡ said_reports k (says set (side_of s (part_of k h)) (changes parameter value))
    pub frames : frames_by s k (outcome h c).answer ≡ []

  pub data TouchedBy (s : Side) (c : Call) : Type 0 where
    spared : SparedBy s c → TouchedBy s c
    clocked : TickOf s c → TouchedBy s c
    turned : TurnOf s c → TouchedBy s c
    changed : ChangeOf s c → TouchedBy s c

  pub own_is : (c : Call) → refusal h c ≡ 0 → own k h c ≡ own_done k h c
  unfolding own
  own_is c e = rw e

  pub held-is : (c : Call) → refusal h c ≡ 0 → (outcome h c).held ≡ done h c
  unfolding outcome
  held-is c e = rw e

  answer-is : (c : Call) → refusal h c ≡ 0 → (outcome h c).answer ≡ reply h c
  unfolding outcome
  answer-is c e = rw e

  touch-frame : (s : Side) (id : ℕ) (d : List ℕ) → refusal h (frame id d) ≡ 0 → T (spares s k h (frame id d)) → TouchedBy s (frame id d)
  unfolding spares
  touch-frame s id d e t = go (eqb-cases (sender_of id) k)
    where
      fs : frames_by s k (outcome h (frame id d)).answer ≡ []
      fs = ap (frames_by s k) (answer-is (frame id d) e) ∙ unfold reply frames_by in refl

      done-as : (b : Bool) → eqb (sender_of id) k ≡ b → own k h (frame id d) ≡ pick b (arrives d ∷ []) []
      done-as b u = own_is (frame id d) e ∙ unfold own_done in (rw u)

      not-its : T (not (same_side s (frame_side d))) → side_events s set (part_of k h) (arrives d ∷ []) ≡ []
      not-its u = unfold side_events for_side in (rw (is_false (same_side s (frame_side d)) u))

      go : Tested (eqb (sender_of id) k) (sender_of id ≡ k) (sender_of id ≡ k → ⊥) → TouchedBy s (frame id d)
      go (fails u q) = let (x, y) = untouched s (frame id d) [] (done-as false u) (unfold side_events in refl) in spared (record { part = x; reported = y; frames = fs })
      go (holds u q) = by (or_cases (is_ignored (came_at h k d).word) _ (rw u at t))
        where
          by : T (is_ignored (came_at h k d).word) ⊎ T (not (same_side s (frame_side d))) → TouchedBy s (frame id d)
          by (inl v) = let (x, y) = passed-by s (frame id d) d (done-as true u) v in spared (record { part = x; reported = y; frames = fs })
          by (inr v) = let (x, y) = untouched s (frame id d) (arrives d ∷ []) (done-as true u) (not-its v) in spared (record { part = x; reported = y; frames = fs })

  touch-send : (s : Side) (j party : ℕ) (m : List ℕ) → refusal h (send j party m) ≡ 0 → T (spares s k h (send j party m)) → TouchedBy s (send j party m)
  unfolding spares
  touch-send s j party m e t = go (eqb-cases j k)
    where
      fs : frames_by s k (outcome h (send j party m)).answer ≡ []
      fs = ap (frames_by s k) (answer-is (send j party m) e) ∙ unfold reply frames_by in refl

      done-as : (b : Bool) → eqb j k ≡ b → own k h (send j party m) ≡ pick b (sends (record { 0 = party }) m ∷ []) []
      done-as b u = own_is (send j party m) e ∙ unfold own_done in (rw u)

      not-its : T (not (same_side s send_side)) → side_events s set (part_of k h) (sends (record { 0 = party }) m ∷ []) ≡ []
      not-its u = unfold side_events for_side in (rw (is_false (same_side s send_side) u))

      go : Tested (eqb j k) (j ≡ k) (j ≡ k → ⊥) → TouchedBy s (send j party m)
      go (holds u q) = let (x, y) = untouched s (send j party m) (sends (record { 0 = party }) m ∷ []) (done-as true u) (not-its (rw u at t)) in spared (record { part = x; reported = y; frames = fs })
      go (fails u q) = let (x, y) = untouched s (send j party m) [] (done-as false u) (unfold side_events in refl) in spared (record { part = x; reported = y; frames = fs })

  touch-change : (s : Side) (j parameter value : ℕ) → refusal h (change j parameter value) ≡ 0 → TouchedBy s (change j parameter value)
  touch-change s j parameter value e = go (eqb-cases j k) (test-cases (same_side s receive))
    where
      c : Call
      c = change j parameter value

      fs : frames_by s k (outcome h c).answer ≡ []
      fs = ap (frames_by s k) (answer-is c e) ∙ unfold reply frames_by in refl

      done-as : (b : Bool) → eqb j k ≡ b → own k h c ≡ pick b (changes parameter value ∷ []) []
      done-as b u = own_is c e ∙ unfold own_done in (rw u)

      its-as : (b : Bool) → same_side s receive ≡ b → side_events s set (part_of k h) (changes parameter value ∷ []) ≡ pick b (changes parameter value ∷ []) []
      its-as true v = unfold side_events for_side in (rw v)
      its-as false v = unfold side_events for_side in (rw v)

      go : Tested (eqb j k) (j ≡ k) (j ≡ k → ⊥) → Tested (same_side s receive) (T (same_side s receive)) (T (not (same_side s receive))) → TouchedBy s c
      go (holds u q) (holds v t) =
          let (x, y) = touched s c (changes parameter value) (done-as true u) (its-as true v) in
          changed (record {
            its = t;
            free = rw q at (change-answered h j parameter value e).free;
            parameter = parameter;
            value = value;
            part = x;
            reported = y;
            frames = fs;
          })
      go (holds u q) (fails v t) =
          let (x, y) = untouched s c (changes parameter value ∷ []) (done-as true u) (its-as false v) in spared (record { part = x; reported = y; frames = fs })
      go (fails u q) w = let (x, y) = untouched s c [] (done-as false u) (unfold side_events in refl) in spared (record { part = x; reported = y; frames = fs })

  side-code : (s : Side) → tick_code s (side_of s (part_of k h)).berth ≡ tick_code s (berth_at h.node k)
  unfolding side_of part_of
  side-code receive = refl
  side-code send_side = refl

  pub touch-tick : (s : Side) → refusal h tick ≡ 0 → T (spares s k h tick) → TickOf s tick
  unfolding spares
  touch-tick s e t =
      let (x, y) = touched s tick ticks (own_is tick e ∙ unfold own_done in refl) (unfold side_events for_side in refl) in
      record { part = x; reported = y; frames = ap (frames_by s k) (answer-is tick e) ∙ unfold reply frames_by in refl; none = side-code s ∙ eqb_yes t }

  -- the side whose turn it is has a frame due
  due-side : (p : Part) → T (due p.berth) → T (due (side_of (turn_side p) p).berth)
  unfolding due turn_side side_of
  due-side p t = go (test-cases (flow_due p.berth.rx))
    where
      go : Tested (flow_due p.berth.rx) (T (flow_due p.berth.rx)) (T (not (flow_due p.berth.rx))) → T (due (side_of (turn_side p) p).berth)
      go (holds u v) = rw (u, u) tt
      go (fails u v) = rw u (rw u at t)

  same-side : (s t : Side) → T (same_side s t) → t ≡ s
  same-side receive receive u = refl
  same-side receive send_side u = absurd u
  same-side send_side receive u = absurd u
  same-side send_side send_side u = refl

  said-turn : (s : Side) (p : Part) → T (same_side s (turn_side p)) → says set (side_of s p) turns ≡ says set p turns
  unfolding says side_of turn_side hand_over
  said-turn s p t = go s (flow_due p.berth.rx) refl t
    where
      go : (s : Side) (b : Bool) → flow_due p.berth.rx ≡ b → T (same_side s (turn_side p)) → says set (side_of s p) turns ≡ says set p turns
      go receive true e t = rw e
      go receive false e t = absurd (rw e at t)
      go send_side true e t = absurd (rw e at t)
      go send_side false e t = rw e

  module _ (sound : Sound h) (small : k < berth_count) where
    range : BerthRange set (part_of k h).berth
    unfolding part_of
    range = sound.order.berth k small

    -- a turn that reached berth k
    module _ (s : Side) (buffer : List ℕ) (e : refusal h (turn buffer) ≡ 0) (l : passed_over h.node < berth_count) (q : reached h.node ≡ k) where
      due-k : T (due (part_of k h).berth)
      unfolding part_of
      due-k = rw q at (reached-due h.node sound.order l).0

      pub own-k : own k h (turn buffer) ≡ turns ∷ []
      unfolding own_done
      own-k = own_is (turn buffer) e ∙ rw (ltb-is (passed_over h.node) berth_count l, eqb_is (reached h.node) k q)

      frames-turn : frames_by s k (reply h (turn buffer))
          ≡ pick (same_side s (turn_side (part_of k h))) ((hand_over (part_of k h).berth (part_of k h).outgoing).frame ∷ []) []
      unfolding reply frames_by handed_at part_of
      frames-turn =
          rw (
            ltb-is (passed_over h.node) berth_count l,
            said-to _ _ (reached h.node),
            eqb_is (reached h.node) k q,
            q,
            handed-side set (part_of k h) sound.order.settings.area-most range due-k,
          )

      frames-own : frames_by s k (outcome h (turn buffer)).answer
          ≡ pick (same_side s (turn_side (part_of k h))) ((hand_over (part_of k h).berth (part_of k h).outgoing).frame ∷ []) []
      frames-own = ap (frames_by s k) (answer-is (turn buffer) e) ∙ frames-turn

      -- it is the side's own turn, or the other side's
      pub turn-of-side : T (same_side s (turn_side (part_of k h))) → TurnOf s (turn buffer)
      unfolding side_events for_side says handed_in
      turn-of-side t =
          let v : same_side s (turn_side (part_of k h)) ≡ true = is_true _ t in
          let (x, y) = touched s (turn buffer) turns own-k (rw v) in
          record {
            is-due = rw (same-side s (turn_side (part_of k h)) t) at (due-side (part_of k h) due-k);
            part = x;
            reported = y;
            frames = frames-own
                ∙ ap (λ (b : Bool). pick b ((hand_over (part_of k h).berth (part_of k h).outgoing).frame ∷ []) []) v
                ∙ sym (ap handed_in (said-turn s (part_of k h) t));
          }

      pub turn-of-other : T (not (same_side s (turn_side (part_of k h)))) → SparedBy s (turn buffer)
      unfolding side_events for_side
      turn-of-other t =
          let v : same_side s (turn_side (part_of k h)) ≡ false = is_false _ t in
          let (x, y) = untouched s (turn buffer) (turns ∷ []) own-k (rw v) in
          record { part = x; reported = y; frames = frames-own ∙ rw v }

      touch-own-turn : TouchedBy s (turn buffer)
      touch-own-turn = go (test-cases (same_side s (turn_side (part_of k h))))
        where
          go : Tested (same_side s (turn_side (part_of k h))) (T (same_side s (turn_side (part_of k h)))) (T (not (same_side s (turn_side (part_of k h)))))
              → TouchedBy s (turn buffer)
          go (holds v t) = turned (turn-of-side t)
          go (fails v t) = spared (turn-of-other t)

    -- a turn that reached another berth, or none
    not-reached : (s : Side) (buffer : List ℕ) → refusal h (turn buffer) ≡ 0 → own k h (turn buffer) ≡ [] → frames_by s k (reply h (turn buffer)) ≡ []
        → SparedBy s (turn buffer)
    not-reached s buffer e o f =
        let (x, y) = untouched s (turn buffer) [] o (unfold side_events in refl) in
        record { part = x; reported = y; frames = ap (frames_by s k) (answer-is (turn buffer) e) ∙ f }

    pub other-berth : (s : Side) (buffer : List ℕ) → refusal h (turn buffer) ≡ 0 → passed_over h.node < berth_count → (reached h.node ≡ k → ⊥)
        → SparedBy s (turn buffer)
    unfolding own_done reply frames_by
    other-berth s buffer e l ne =
        let u = ltb-is (passed_over h.node) berth_count l in
        let t = eqb-not (reached h.node) k ne in
        not-reached s buffer e (own_is (turn buffer) e ∙ rw (u, t)) (rw (u, said-to _ _ (reached h.node), t))

    touch-turn : (s : Side) (buffer : List ℕ) → refusal h (turn buffer) ≡ 0 → TouchedBy s (turn buffer)
    touch-turn s buffer e = go (ltb-cases (passed_over h.node) berth_count) (eqb-cases (reached h.node) k)
      where
        go : Tested (ltb (passed_over h.node) berth_count) (passed_over h.node < berth_count) (berth_count ≤ passed_over h.node)
            → Tested (eqb (reached h.node) k) (reached h.node ≡ k) (reached h.node ≡ k → ⊥) → TouchedBy s (turn buffer)
        go (holds u l) (holds t q) = touch-own-turn s buffer e l q
        go (holds u l) (fails t ne) = spared (other-berth s buffer e l ne)
        go (fails u l) w = spared (not-reached s buffer e (own_is (turn buffer) e ∙ unfold own_done in (rw u)) (unfold reply frames_by in (rw u)))

    touch-answered : (s : Side) (c : Call) → refusal h c ≡ 0 → T (spares s k h c) → TouchedBy s c
    touch-answered s (frame id d) e t = touch-frame s id d e t
    touch-answered s tick e t = clocked (touch-tick s e t)
    touch-answered s (send j party m) e t = touch-send s j party m e t
    touch-answered s (turn buffer) e t = touch-turn s buffer e
    touch-answered s (show j choice) e t =
        let (x, y) = untouched s (show j choice) [] (own_is (show j choice) e ∙ unfold own_done in refl) (unfold side_events in refl) in
        spared (record { part = x; reported = y; frames = ap (frames_by s k) (answer-is (show j choice) e) ∙ unfold reply frames_by in refl })
    touch-answered s (change j parameter value) e t = touch-change s j parameter value e

    -- what a call that spares side s of berth k does to that side
    pub touch : (s : Side) (c : Call) → Spares s k h c → TouchedBy s c
    touch s c t = go (refusal h c) refl
      where
        go : (n : ℕ) → refusal h c ≡ n → TouchedBy s c
        go zero e = touch-answered s c e (t e)
        go (suc n) e =
            let (x, y) = untouched s c [] (unfold own in (rw e)) (unfold side_events in refl) in
            spared (record { part = x; reported = y; frames = unfold outcome refused_outcome frames_by in (rw e) })

    -- ---- a frame carried to the side

    back-again : sender_of (from_berth + k) ≡ k
    back-again = omega arith

    carried-met : (d : List ℕ) → length d ≤ most_data → refusal h (frame (from_berth + k) d) ≡ 0
    unfolding refusal needs right_store right_cards
    carried-met d l =
        let known : T (leb from_berth (from_berth + k) && ltb (from_berth + k) (from_berth + berth_count)) =
        yes_and (leb from_berth (from_berth + k)) (ltb (from_berth + k) (from_berth + berth_count)) (le→leb from_berth (from_berth + k) (omega arith)) (lt→ltb (from_berth + k) (from_berth + berth_count) (omega arith)) in
        all-met (needs h (frame (from_berth + k) d)) (
          range-in-order h.node sound.order,
          (
            yes_eqb sound.incoming,
            (
              yes_eqb sound.ten,
              (
                known,
                (yes_leb l, tt),
              ),
            ),
          ),
        )

    own-carried : (d : List ℕ) → length d ≤ most_data → own k h (frame (from_berth + k) d) ≡ arrives d ∷ []
    unfolding own_done
    own-carried d l = own_is (frame (from_berth + k) d) (carried-met d l) ∙ rw (eqb_is (sender_of (from_berth + k)) k back-again)

    -- it is one event of the side it is for, and no frame is handed over
    pub record CarriedTo (s : Side) (d : List ℕ) : Type 0 where
      pub part : side_of s (part_of k (outcome h (frame (from_berth + k) d)).held) ≡ state_after set (side_of s (part_of k h)) (arrives d)
      pub reported : reports_by s k (outcome h (frame (from_berth + k) d)).answer ≡ said_reports k (says set (side_of s (part_of k h)) (arrives d))
      pub frames : frames_by s k (outcome h (frame (from_berth + k) d)).answer ≡ []

    pub carry : (s : Side) (d : List ℕ) → length d ≤ most_data → frame_side d ≡ s → CarriedTo s d
    carry s d l e =
        let (x, y) = touched s (frame (from_berth + k) d) (arrives d) (own-carried d l) (its s e) in
        record { part = x; reported = y; frames = ap (frames_by s k) (answer-is (frame (from_berth + k) d) (carried-met d l)) ∙ unfold reply frames_by in refl }
      where
        its : (s : Side) → frame_side d ≡ s → side_events s set (part_of k h) (arrives d ∷ []) ≡ arrives d ∷ []
        its receive e = unfold side_events for_side in (rw e)
        its send_side e = unfold side_events for_side in (rw e)

    -- ---- the Beguns and Delivereds of the receive side

    said-own : (c : Call) (es : List Event) → own k h c ≡ es → says_of k (outcome h c).answer ≡ says_all set (part_of k h) es
    said-own c es o = says-step k h c ∙ ap (says_all set (part_of k h)) o

    -- what is read off a carried frame's answer is that of the side alone
    pub said-carried : {X : Type 0} (f : Says → List X) (d : List ℕ) → length d ≤ most_data → frame_side d ≡ receive
        → over f (says_of k (outcome h (frame (from_berth + k) d)).answer) ≡ f (says set (side_of receive (part_of k h)) (arrives d))
    unfolding says_all over says side_of came_with_tx
    said-carried f d l e =
        ap (over f) (said-own (frame (from_berth + k) d) (arrives d ∷ []) (own-carried d l))
        ∙ append-nil _
        ∙ ap (λ (c : Came). f (hears c.old c.word)) (came-receive set (part_of k h).berth d (not-flow d e))

    frame-neither : (d : List ℕ) → T (is_ignored (came_at h k d).word || not (same_side receive (frame_side d)))
        → Neither (says set (part_of k h) (arrives d) ∷ [])
    unfolding says part_of came_at
    frame-neither d t = by (or_cases (is_ignored (came_at h k d).word) _ t)
      where
        by : T (is_ignored (came_at h k d).word) ⊎ T (not (same_side receive (frame_side d))) → Neither (says set (part_of k h) (arrives d) ∷ [])
        by (inl u) = ignored-neither _ _ u
        by (inr u) = rw (came-send set (berth_at h.node k) d (is-flow d u)) (unfold told_by in (flow-neither (berth_at h.node k).tx d 0))

    neither-done : (c : Call) → T (spares receive k h c) → Neither (says_all set (part_of k h) (own_done k h c))
    unfolding own_done says_all over spares says delivered_in begun_in
    neither-done (frame id d) t =
        pick-either (λ es. Neither (says_all set (part_of k h) es)) (eqb (sender_of id) k) (arrives d ∷ []) []
        (λ u. frame-neither d (rw (is_true (eqb (sender_of id) k) u) at t)) (λ u. (refl, λ any. refl))
    neither-done tick t = (refl, λ any. refl)
    neither-done (send j party m) t =
        pick-either (λ es. Neither (says_all set (part_of k h) es)) (eqb j k) (sends (record { 0 = party }) m ∷ []) [] (λ u. (refl, λ any. refl)) (λ u. (refl, λ any. refl))
    neither-done (turn buffer) t =
        pick-either (λ es. Neither (says_all set (part_of k h) es)) (ltb (passed_over h.node) berth_count && eqb (reached h.node) k) (turns ∷ []) []
        (λ u. (refl, λ any. refl)) (λ u. (refl, λ any. refl))
    neither-done (show j choice) t = (refl, λ any. refl)
    neither-done (change j parameter value) t =
        pick-either (λ es. Neither (says_all set (part_of k h) es)) (eqb j k) (changes parameter value ∷ []) []
        (λ u. (refl, λ any. refl)) (λ u. (refl, λ any. refl))

    -- a call that spares the receive side is answered with neither
    pub neither-said : (c : Call) → Spares receive k h c → Neither (says_of k (outcome h c).answer)
    neither-said c t = go (refusal h c) refl
      where
        go : (n : ℕ) → refusal h c ≡ n → Neither (says_of k (outcome h c).answer)
        go zero e = subst Neither (sym (said-own c (own_done k h c) (own_is c e))) (neither-done c (t e))
        go (suc n) e = subst Neither (sym (said-own c [] (unfold own in (rw e)))) (unfold says_all over in (refl, λ any. refl))
