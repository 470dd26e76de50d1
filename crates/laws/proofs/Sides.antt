-- Receiving and sending are independent. A frame of one kind reads and writes one side; a tick and a send work on each side by itself;
-- a turn is the receive side's where flow control is owed and else the send side's.
use mathlib.Core.Path.{◌≡◌, refl, sym, ap, ap₂, ◌∙◌}
use Prim.Native.Nat.{ℕ, zero, suc}
use native.Mathlib.Omega.{arith}
use mathlib.Core.Bool.{Bool, true, false}
use mathlib.Core.List.{List, [], ◌∷◌, ◌++◌, map, append-nil}
use lib.ListN.{length}
use lib.Seq.{sets}
use lib.Dec.{eqb}
use Rattle.rules.specs.Tests.{pick}
use Rattle.rules.specs.Numbers.{single_kind, first_kind, consecutive_kind, flow_kind, go_status, wait_status, overflow_status, no_data, other_kind}
use Rattle.rules.specs.Parties.{scheduler, party_of, reporting}
use Rattle.rules.specs.Nodes.{with_tx}
use Rattle.rules.specs.Frames.{kind, low, single_fits, announced, first_fits, flow_fits}
use Rattle.rules.specs.Arrivals.{Heard, Told, Came, ignored, single_came, first_came, above_area, turned_away, begun, completed, took, wrong_sn, consecutive_came, by_status, flow_ignored, flow_came, heard_by, told_by, by_kind, frame_came}
use Rattle.rules.specs.Ticks.{ticked, rx_code, tx_code, tx_party}
use Rattle.rules.specs.Turns.{flow_due, hand_over, sent}
use Rattle.rules.specs.Changes.{changed}
use Rattle.rules.specs.Answers.{Side, receive, send, Report, reported, failed_side, word_reports}
use Rattle.rules.specs.Cards.{zero_card}
use Rattle.rules.specs.Events.{Event, arrives, ticks, sends, turns, changes}
use Rattle.rules.specs.Alone.{Part, Says, hears, hands, state_after, part_after, says, alone, says_all}
use Rattle.rules.specs.Clocks.{tick_code, side_party}
use Rattle.rules.specs.Words.{reason_number}
use Rattle.rules.specs.declared.Settings.{Settings}
use Rattle.rules.specs.declared.Party.{Party}
use Rattle.rules.specs.declared.Rx.{Rx}
use Rattle.rules.specs.declared.Tx.{Tx}
use Rattle.rules.specs.declared.Berth.{Berth}
use Rattle.rules.proofs.Cases.{Tested, holds, fails, eqb-cases, eqb-not, pick-either}
use Rattle.rules.proofs.Parties.{reporting-named}
use Rattle.rules.proofs.Facts.{consecutive-either}
use Rattle.laws.specs.Own.{over, only, said_reports}
use Rattle.laws.specs.Sides.{same_side, uncounted, side_of, frame_side, turn_side, for_side, side_events, only_side, side_says, of_side}
use Rattle.laws.proofs.Isolation.{alone-append, says-append}
use Rattle.laws.proofs.Reports.{over-append, only-append}

-- ---- a frame that is no flow control: the send side stays, and nothing depends on it

-- the same with another send side
unfoldable pub came_with_tx : Tx → Came → Came
came_with_tx tx c =
    record { berth = with_tx c.berth tx; old = c.old; word = c.word; place = c.place; bytes = c.bytes }

pub came-receive : (set : Settings) (b : Berth) (d : List ℕ) → (kind d ≡ flow_kind → ⊥)
    → frame_came set b d ≡ came_with_tx b.tx (frame_came set (with_tx b Tx.Idle) d)
unfolding frame_came by_kind heard_by came_with_tx
came-receive set b d ne =
    rw (eqb-not (kind d) flow_kind ne) (go (eqb (length d) 0) (eqb (kind d) single_kind) (eqb (kind d) first_kind) (eqb (kind d) consecutive_kind))
  where
    by : Berth → Bool → Bool → Bool → Bool → Came
    by c t u v w =
        pick t (heard_by c (ignored no_data c.rx c.last))
        (pick u (heard_by c (single_came c.rx c.last d))
        (pick v (heard_by c (first_came set c.rx c.last d))
        (pick w (heard_by c (consecutive_came c.settings.block c.rx c.last d))
        (heard_by c (ignored other_kind c.rx c.last)))))

    go : (t u v w : Bool) → by b t u v w ≡ came_with_tx b.tx (by (with_tx b Tx.Idle) t u v w)
    go true u v w = refl
    go false true v w = refl
    go false false true w = refl
    go false false false true = refl
    go false false false false = refl

-- ---- flow control: the receive side stays

pub came-send : (set : Settings) (b : Berth) (d : List ℕ) → kind d ≡ flow_kind → frame_came set b d ≡ told_by b (flow_came b.tx d)
unfolding frame_came by_kind
came-send set b [] e = let z : ◌≡◌ {A = ℕ} 0 3 = unfold kind in e in absurd (omega arith)
came-send set b (x ∷ d) e = rw (eqb-not (length (x ∷ d)) 0 (λ z. omega arith), e)

-- ---- the reports of a frame are those of the side it is for

pub of-side-append : (s : Side) (rs qs : List Report) → of_side s (rs ++ qs) ≡ of_side s rs ++ of_side s qs
unfolding of_side
of-side-append s rs qs = only-append (λ r. same_side s r.side) rs qs

module _ (k : ℕ) where
  -- of these reports side s has all, if they are its own, or none
  abbrev AllOf : Side → List Report → Type 0
  AllOf side rs = (s : Side) → of_side s rs ≡ pick (same_side s side) rs []

  no-reports : (side : Side) → AllOf side []
  unfolding of_side only
  no-reports receive receive = refl
  no-reports receive send = refl
  no-reports send receive = refl
  no-reports send send = refl

  pub reported-all : (side : Side) (c : ℕ) (party : Party) → AllOf side (reported k side c party)
  unfolding reported of_side only
  reported-all receive zero party receive = refl
  reported-all receive zero party send = refl
  reported-all receive (suc c) party receive = refl
  reported-all receive (suc c) party send = refl
  reported-all send zero party receive = refl
  reported-all send zero party send = refl
  reported-all send (suc c) party receive = refl
  reported-all send (suc c) party send = refl

  both-all : (side : Side) (rs qs : List Report) → AllOf side rs → AllOf side qs → AllOf side (rs ++ qs)
  both-all side rs qs a b s = of-side-append s rs qs ∙ ap₂ (λ (x y : List Report). x ++ y) (a s) (b s) ∙ go (same_side s side)
    where
      go : (t : Bool) → pick t rs [] ++ pick t qs [] ≡ pick t (rs ++ qs) []
      go true = refl
      go false = refl

  -- of a tick's reports each side has its own code, and the send side its party
  pub tick-reported : (b : Berth) (s : Side)
      → of_side s (reported k receive (rx_code b.rx) scheduler ++ reported k send (tx_code b.tx) (tx_party b.tx)) ≡ reported k s (tick_code s b) (side_party s b)
  tick-reported b s =
      of-side-append s (reported k receive (rx_code b.rx) scheduler) (reported k send (tx_code b.tx) (tx_party b.tx))
      ∙ ap₂ (λ (x y : List Report). x ++ y) (reported-all receive (rx_code b.rx) scheduler s) (reported-all send (tx_code b.tx) (tx_party b.tx) s)
      ∙ go s
    where
      go : (s : Side)
          → pick (same_side s receive) (reported k receive (rx_code b.rx) scheduler) [] ++ pick (same_side s send) (reported k send (tx_code b.tx) (tx_party b.tx)) []
          ≡ reported k s (tick_code s b) (side_party s b)
      go receive = append-nil _
      go send = reporting-named k send (tx_code b.tx) (party_of b.tx)

  abbrev HeardAll : Heard → Type 0
  HeardAll h = AllOf receive (word_reports k h.word)

  ignored-all : (why : ℕ) (rx : Rx) (last : ℕ) → HeardAll (ignored why rx last)
  unfolding ignored word_reports
  ignored-all why rx last = no-reports receive

  single-all : (rx : Rx) (last : ℕ) (d : List ℕ) → HeardAll (single_came rx last d)
  unfolding single_came word_reports
  single-all rx last d = pick-either HeardAll (single_fits d) _ _ (λ t. reported-all receive 1 scheduler) (λ t. ignored-all 3 rx last)

  first-all : (set : Settings) (rx : Rx) (last : ℕ) (d : List ℕ) → HeardAll (first_came set rx last d)
  unfolding first_came turned_away begun word_reports
  first-all set rx last d =
      pick-either HeardAll (first_fits d) _ _
      (λ t. pick-either HeardAll (above_area set (announced d)) _ _ (λ u. no-reports receive) (λ u. no-reports receive))
      (λ t. ignored-all 3 rx last)

  consecutive-all : (bs : ℕ) (rx : Rx) (last : ℕ) (d : List ℕ) → HeardAll (consecutive_came bs rx last d)
  unfolding completed took wrong_sn word_reports failed_side
  consecutive-all bs rx last d =
      consecutive-either HeardAll bs rx last d (λ why. ignored-all (reason_number why) rx last) (λ p. reported-all receive 1 scheduler) (λ p. no-reports receive) (reported-all receive 5 scheduler)

  abbrev ToldAll : Told → Type 0
  ToldAll t = AllOf send (word_reports k t.word)

  flow-all : (tx : Tx) (d : List ℕ) → ToldAll (flow_came tx d)
  unfolding by_status flow_ignored word_reports failed_side
  flow-all Tx.Idle d = no-reports send
  flow-all (Tx.SingleDue party n t) d = no-reports send
  flow-all (Tx.FirstDue party n t) d = no-reports send
  flow-all (Tx.AwaitsFlow party o t) d =
      pick-either ToldAll (flow_fits d) _ _
      (λ u. pick-either ToldAll (eqb (low d) go_status) _ _ (λ v. no-reports send)
      (λ v. pick-either ToldAll (eqb (low d) wait_status) _ _ (λ w. no-reports send)
      (λ w. pick-either ToldAll (eqb (low d) overflow_status) _ _ (λ x. reported-all send 9 party) (λ x. reported-all send 6 party))))
      (λ u. no-reports send)
  flow-all (Tx.Consecutive party o t) d = no-reports send

  abbrev CameAll : Side → Came → Type 0
  CameAll side c = AllOf side (reported k receive c.old scheduler ++ word_reports k c.word)

  heard_all : (b : Berth) (h : Heard) → HeardAll h → CameAll receive (heard_by b h)
  unfolding heard_by
  heard_all b h a = both-all receive (reported k receive h.old scheduler) (word_reports k h.word) (reported-all receive h.old scheduler) a

  received-all : (set : Settings) (b : Berth) (d : List ℕ) → (kind d ≡ flow_kind → ⊥) → CameAll receive (frame_came set b d)
  unfolding frame_came by_kind
  received-all set b d ne =
      rw (eqb-not (kind d) flow_kind ne)
      (pick-either (CameAll receive) (eqb (length d) 0) _ _ (λ u. heard_all b _ (ignored-all 1 b.rx b.last))
      (λ u. pick-either (CameAll receive) (eqb (kind d) single_kind) _ _ (λ v. heard_all b _ (single-all b.rx b.last d))
      (λ v. pick-either (CameAll receive) (eqb (kind d) first_kind) _ _ (λ w. heard_all b _ (first-all set b.rx b.last d))
      (λ w. pick-either (CameAll receive) (eqb (kind d) consecutive_kind) _ _ (λ x. heard_all b _ (consecutive-all b.settings.block b.rx b.last d))
      (λ x. heard_all b _ (ignored-all 2 b.rx b.last))))))

  pub frame-all : (set : Settings) (b : Berth) (d : List ℕ) → CameAll (frame_side d) (frame_came set b d)
  unfolding frame_side
  frame-all set b d = go (eqb-cases (kind d) flow_kind)
    where
      go : Tested (eqb (kind d) flow_kind) (kind d ≡ flow_kind) (kind d ≡ flow_kind → ⊥)
          → CameAll (pick (eqb (kind d) flow_kind) send receive) (frame_came set b d)
      go (holds t e) = rw (t, came-send set b d e) (unfold told_by reported in (flow-all b.tx d))
      go (fails t ne) = rw t (received-all set b d ne)

-- ---- a side has no counts

pub side-uncounted : (s : Side) (p : Part) → uncounted (side_of s p) ≡ side_of s p
unfolding side_of
side-uncounted receive p = refl
side-uncounted send p = refl

pub uncounted-side : (s : Side) (p : Part) → side_of s (uncounted p) ≡ side_of s p
unfolding side_of
uncounted-side receive p = refl
uncounted-side send p = refl

module _ (set : Settings) where
  -- ---- states, areas and what is said do not depend on the counts

  pub uncounted-after : (p : Part) (e : Event) → uncounted (part_after set p e) ≡ state_after set (uncounted p) e
  unfolding part_after state_after
  uncounted-after p (arrives d) = refl
  uncounted-after p ticks = refl
  uncounted-after p (sends party m) = refl
  uncounted-after p turns = refl
  uncounted-after p (changes parameter value) = refl

  uncounted-alone : (p : Part) (es : List Event) → uncounted (alone set (uncounted p) es) ≡ uncounted (alone set p es)
  unfolding alone
  uncounted-alone p [] = refl
  uncounted-alone p (e ∷ es) =
      sym (uncounted-alone (part_after set (uncounted p) e) es)
      ∙ ap (λ (q : Part). uncounted (alone set q es)) (uncounted-after (uncounted p) e ∙ sym (uncounted-after p e))
      ∙ uncounted-alone (part_after set p e) es

  uncounted-said : (p : Part) (e : Event) → says set (uncounted p) e ≡ says set p e
  unfolding says
  uncounted-said p (arrives d) = refl
  uncounted-said p ticks = refl
  uncounted-said p (sends party m) = refl
  uncounted-said p turns = refl
  uncounted-said p (changes parameter value) = refl

  uncounted-says : (p : Part) (es : List Event) → says_all set (uncounted p) es ≡ says_all set p es
  unfolding says_all
  uncounted-says p [] = refl
  uncounted-says p (e ∷ es) =
      ap₂ (λ (x : Says) (r : List Says). x ∷ r) (uncounted-said p e)
      (sym (uncounted-says (part_after set (uncounted p) e) es)
      ∙ ap (λ (q : Part). says_all set q es) (uncounted-after (uncounted p) e ∙ sym (uncounted-after p e))
      ∙ uncounted-says (part_after set p e) es)

  -- ---- one event

  pub side_after : (s : Side) (p : Part) (e : Event) → side_of s (part_after set p e) ≡ uncounted (alone set (side_of s p) (for_side s p e))
  unfolding side_of state_after part_after alone for_side frame_side turn_side
  side_after s p (arrives d) = go s (eqb-cases (kind d) flow_kind)
    where
      go : (s : Side) → Tested (eqb (kind d) flow_kind) (kind d ≡ flow_kind) (kind d ≡ flow_kind → ⊥)
          → side_of s (part_after set p (arrives d)) ≡ uncounted (alone set (side_of s p) (for_side s p (arrives d)))
      go receive (holds t e) = rw (t, came-send set p.berth d e) (unfold told_by in refl)
      go send (holds t e) =
          rw (t, came-send set p.berth d e, came-send set (side_of send p).berth d e) (unfold told_by in refl)
      go receive (fails t ne) =
          rw (t, came-receive set p.berth d ne)
          (unfold came_with_tx in (sym (ap (λ (c : Came). record { berth = c.berth; incoming = sets p.incoming c.place c.bytes; outgoing = []; card = zero_card })
          (came-receive set (side_of receive p).berth d ne))))
      go send (fails t ne) = rw (t, came-receive set p.berth d ne) (unfold came_with_tx in refl)
  side_after receive p ticks = unfold ticked in refl
  side_after send p ticks = unfold ticked in refl
  side_after receive p (sends party m) = unfold sent in refl
  side_after send p (sends party m) = unfold sent in refl
  side_after s p turns = go s (flow_due p.berth.rx) refl
    where
      go : (s : Side) (b : Bool) → flow_due p.berth.rx ≡ b
          → side_of s (part_after set p turns) ≡ uncounted (alone set (side_of s p) (for_side s p turns))
      go receive true e = unfold hand_over in (rw (e, e))
      go send true e = unfold hand_over in (rw e)
      go receive false e = unfold hand_over in (rw e)
      go send false e = unfold hand_over in (rw e)
  side_after receive p (changes parameter value) = unfold changed in refl
  side_after send p (changes parameter value) = unfold changed in refl

  -- what the berth says of it, for that side
  side-said : (s : Side) (p : Part) (e : Event)
      → map (λ x. only_side s (says set p e)) (for_side s p e) ≡ says_all set (side_of s p) (for_side s p e)
  unfolding side_of says_all says for_side frame_side turn_side only_side reporting
  side-said s p (arrives d) = go s (eqb-cases (kind d) flow_kind)
    where
      go : (s : Side) → Tested (eqb (kind d) flow_kind) (kind d ≡ flow_kind) (kind d ≡ flow_kind → ⊥)
          → map (λ x. only_side s (says set p (arrives d))) (for_side s p (arrives d)) ≡ says_all set (side_of s p) (for_side s p (arrives d))
      go receive (holds t e) = rw t
      go send (holds t e) =
          rw (t, came-send set p.berth d e, came-send set (side_of send p).berth d e) (unfold told_by in refl)
      go receive (fails t ne) = rw (t, came-receive set p.berth d ne) (unfold came_with_tx in refl)
      go send (fails t ne) = rw t
  side-said receive p ticks = refl
  side-said send p ticks = refl
  side-said receive p (sends party m) = refl
  side-said send p (sends party m) = refl
  side-said s p turns = go s (flow_due p.berth.rx) refl
    where
      go : (s : Side) (b : Bool) → flow_due p.berth.rx ≡ b
          → map (λ x. only_side s (says set p turns)) (for_side s p turns) ≡ says_all set (side_of s p) (for_side s p turns)
      go receive true e = unfold hand_over in (rw (e, e))
      go send true e = rw e
      go receive false e = rw e
      go send false e = unfold hand_over in (rw e)
  side-said receive p (changes parameter value) = refl
  side-said send p (changes parameter value) = refl

  -- ---- runs

  -- EACH SIDE'S STATE AND AREA. After any events each side of a berth, with its area, is what its own events make of that side alone, the
  -- berth's card apart: the frames for it, its sends, all ticks, and the turns that are its own. The other side matters only there: flow
  -- control goes first.
  pub side-alone : (s : Side) (p : Part) (es : List Event) → side_of s (alone set p es) ≡ uncounted (alone set (side_of s p) (side_events s set p es))
  unfolding alone side_events
  side-alone s p [] = sym (side-uncounted s p)
  side-alone s p (e ∷ es) =
      side-alone s (part_after set p e) es
      ∙ ap (λ (q : Part). uncounted (alone set q (side_events s set (part_after set p e) es))) (side_after s p e)
      ∙ uncounted-alone (alone set (side_of s p) (for_side s p e)) (side_events s set (part_after set p e) es)
      ∙ ap uncounted (sym (alone-append set (side_of s p) (for_side s p e) (side_events s set (part_after set p e) es)))

  -- EACH SIDE'S WORDS, CODES AND FRAMES are those that its own events say on that side alone.
  pub side-says : (s : Side) (p : Part) (es : List Event) → side_says s set p es ≡ says_all set (side_of s p) (side_events s set p es)
  unfolding side_says says_all side_events
  side-says s p [] = refl
  side-says s p (e ∷ es) =
      ap₂ (λ (q r : List Says). q ++ r) (side-said s p e) (side-says s (part_after set p e) es)
      ∙ ap (λ (q : Part). says_all set (side_of s p) (for_side s p e) ++ says_all set q (side_events s set (part_after set p e) es)) (side_after s p e)
      ∙ ap (λ (r : List Says). says_all set (side_of s p) (for_side s p e) ++ r) (uncounted-says (alone set (side_of s p) (for_side s p e)) (side_events s set (part_after set p e) es))
      ∙ sym (says-append set (side_of s p) (for_side s p e) (side_events s set (part_after set p e) es))

  -- ---- reports

  -- the reports of one event, for that side
  side-reported : (k : ℕ) (s : Side) (p : Part) (e : Event)
      → of_side s (said_reports k (says set p e)) ≡ over (said_reports k) (map (λ x. only_side s (says set p e)) (for_side s p e))
  unfolding says said_reports for_side only_side over
  side-reported k s p (arrives d) =
      frame-all k set p.berth d s ∙ go (same_side s (frame_side d))
    where
      rs : List Report
      rs = reported k receive (frame_came set p.berth d).old scheduler ++ word_reports k (frame_came set p.berth d).word

      go : (b : Bool)
          → pick b rs []
          ≡ over (said_reports k) (map (λ x. hears (frame_came set p.berth d).old (frame_came set p.berth d).word) (pick b (arrives d ∷ []) []))
      go true = sym (append-nil rs)
      go false = refl
  side-reported k receive p ticks = tick-reported k p.berth receive ∙ unfold reported in (sym (append-nil _ ∙ append-nil _))
  side-reported k send p ticks =
      tick-reported k p.berth send
      ∙ sym (reporting-named k send (tx_code p.berth.tx) (party_of p.berth.tx))
      ∙ unfold reported in (sym (append-nil _))
  side-reported k receive p (sends party m) = unfold of_side only in refl
  side-reported k send p (sends party m) = unfold of_side only in refl
  side-reported k s p turns = unfold hand_over turn_side in (go s (flow_due p.berth.rx) refl)
    where
      go : (s : Side) (b : Bool) → flow_due p.berth.rx ≡ b
          → of_side s (reported k send (hand_over p.berth p.outgoing).code (hand_over p.berth p.outgoing).party)
          ≡ over (said_reports k) (map (λ x. hands (hand_over p.berth p.outgoing).frame (hand_over p.berth p.outgoing).code (hand_over p.berth p.outgoing).party) (pick (same_side s (pick b receive send)) (turns ∷ []) []))
      go receive true e = unfold hand_over in (rw e (unfold reported of_side only in refl))
      go send true e = unfold hand_over in (rw e (unfold reported of_side only in refl))
      go receive false e = reported-all k send (hand_over p.berth p.outgoing).code (hand_over p.berth p.outgoing).party receive
      go send false e = reported-all k send (hand_over p.berth p.outgoing).code (hand_over p.berth p.outgoing).party send ∙ sym (append-nil _)
  side-reported k receive p (changes parameter value) = unfold of_side only in refl
  side-reported k send p (changes parameter value) = unfold of_side only in refl

  side-reports-said : (k : ℕ) (s : Side) (p : Part) (es : List Event)
      → of_side s (over (said_reports k) (says_all set p es)) ≡ over (said_reports k) (side_says s set p es)
  unfolding says_all side_says over
  side-reports-said k s p [] = unfold of_side only in refl
  side-reports-said k s p (e ∷ es) =
      of-side-append s (said_reports k (says set p e)) (over (said_reports k) (says_all set (part_after set p e) es))
      ∙ ap₂ (λ (x y : List Report). x ++ y) (side-reported k s p e) (side-reports-said k s (part_after set p e) es)
      ∙ sym (over-append (said_reports k) (map (λ x. only_side s (says set p e)) (for_side s p e)) (side_says s set (part_after set p e) es))

  -- EACH SIDE'S REPORTS, by the side that the paper gives to each code, are those of its own events on that side alone.
  pub side-reports : (k : ℕ) (s : Side) (p : Part) (es : List Event)
      → of_side s (over (said_reports k) (says_all set p es)) ≡ over (said_reports k) (says_all set (side_of s p) (side_events s set p es))
  side-reports k s p es = side-reports-said k s p es ∙ ap (over (said_reports k)) (side-says s p es)

  -- RECEIVING AND SENDING ARE INDEPENDENT. Take two states of a berth that agree in one side and its area. Any event makes the same of
  -- that side and its area in both, and that side says the same, whatever the other sides are; but a turn must be the same side's
  -- in both, for flow control goes first.
  pub independent : (s : Side) (p q : Part) (e : Event) → side_of s p ≡ side_of s q → (e ≡ turns → turn_side p ≡ turn_side q)
      → (side_of s (part_after set p e) ≡ side_of s (part_after set q e))
      × (map (λ x. only_side s (says set p e)) (for_side s p e) ≡ map (λ x. only_side s (says set q e)) (for_side s q e))
  independent s p q e same turn =
      let f : for_side s p e ≡ for_side s q e = for e turn in (
        side_after s p e ∙ ap₂ (λ (x : Part) (es : List Event). uncounted (alone set x es)) same f ∙ sym (side_after s q e),
        side-said s p e ∙ ap₂ (λ (x : Part) (es : List Event). says_all set x es) same f ∙ sym (side-said s q e),
      )
    where
      for : (e : Event) → (e ≡ turns → turn_side p ≡ turn_side q) → for_side s p e ≡ for_side s q e
      for (arrives d) t = unfold for_side in refl
      for ticks t = unfold for_side in refl
      for (sends party m) t = unfold for_side in refl
      for turns t = unfold for_side in (ap (λ (x : Side). pick (same_side s x) (turns ∷ []) []) (t refl))
      for (changes parameter value) t = unfold for_side in refl
