-- Chains that meet the premises of the laws of the code's runs, and poor nodes that are no run, computed.
use Prim.Native.Nat.{ℕ, ◌<◌}
use native.Mathlib.Omega.{arith}
use mathlib.Core.Path.{◌≡◌, refl, sym, ap, ◌∙◌, subst}
use mathlib.Core.List.{List, [], ◌∷◌, ◌++◌, map}
use lib.ListN.{get_or, replicate}
use lib.Dec.{lit<, lit≤}
use Rattle.rules.specs.Tests.{all, first_unmet}
use Rattle.rules.specs.Numbers.{berth_count}
use Rattle.rules.specs.Parties.{scheduler}
use Rattle.rules.specs.Nodes.{zero_settings, berth_at, with_berth, Held, blank_node, with_node}
use Rattle.rules.specs.Ranges.{settings_allowed, in_block, taking_in_range, berth_in_order, in_order}
use Rattle.rules.specs.Frames.{kind, low, single_fits, short_length, escape_length, announced, first_fits, consecutive_fits, share}
use Rattle.rules.specs.Arrivals.{single_came, begun, first_came, piece, completed, awaited_came, heard_by, by_kind, frame_came}
use Rattle.rules.specs.Turns.{due, hand_over, begins_with, sent as sent_berth}
use Rattle.rules.specs.Changes.{value_allowed, changed_settings}
use Rattle.rules.specs.Events.{Call, frame, tick, send, turn, change, ticks, arrives, sends, changes}
use Rattle.rules.specs.Stores.{right_store, area_of, stored, served_node, set_up_node, distance, least_distance, passed_over, reached, came_at, handed_at}
use Rattle.rules.specs.Answers.{refused, receive, send as send_side, reported, word_reports, codes_reports, reports}
use Rattle.rules.specs.Cards.{right_cards, added_at}
use Rattle.rules.specs.Refusals.{needs, refusal, set_up_refusal}
use Rattle.rules.specs.Calls.{Outcome, after_frame, after_turn, done, outcome, set_up_outcome, answers, final}
use Rattle.rules.specs.Alone.{part_of, state_after, part_after, says, hears}
use Rattle.rules.specs.Clocks.{Idle, most_time}
use Rattle.rules.specs.Words.{Delivered}
use Rattle.rules.specs.declared.Settings.{Settings}
use Rattle.rules.specs.declared.BerthSettings.{BerthSettings}
use Rattle.rules.specs.declared.Party.{Party}
use Rattle.rules.specs.declared.Tx.{Tx}
use Rattle.laws.specs.Own.{own_done, own, owns, over}
use Rattle.laws.specs.Histories.{history_of}
use Rattle.laws.specs.Cards.{zero_cards, TalliesAt}
use Rattle.laws.specs.Gaps.{TwoFrames, Spaced}
use Rattle.laws.specs.Changes.{ChangesOnly, settings_after}
use Rattle.laws.specs.Free.{LeftAlone, ComesFree, AllComeFree}
use Rattle.laws.specs.Rounds.{turn_of, StaysDue, Fair}
use Rattle.laws.specs.Parties.{unnamed_held, unnamed_outcome, PartiesApart}
use Rattle.laws.specs.Line.{blank}
use Rattle.laws.proofs.Examples.{two, two_own, two_run, two-computed, afresh-computed, afresh-cards, crowd, crowd_run, crowd-computed, harbour, to_six, six_frames, shared, laptop, late, late_run, stuck, stuck-sound, live, live_owned, dipped, sharp}
use Rattle.journal.specs.Numbers.{bytes_of}
use Rattle.journal.specs.Records.{record_of}
use Rattle.journal.specs.Entries.{kind_of, noted, word_entries, codes_entries, entries_of, is_tick, ticks_after, journal_from, journal_of}
use Rattle.journal.specs.Files.{AllWithin, file_of, reports_of, answered_ticks, Journals}
use Rattle.journal.specs.declared.Entry.{Entry}
use Rattle.runs.specs.Chains.{Made, AfterSetUp, made_of, calls_of, outcomes_by, said_by, left_by, own_in, DueIn, history_in, NamesIn, EachAlone}
use Rattle.runs.proofs.Runs.{chain-says, chain-leaves, chain-owns, chain-history, chain-settings, step-change-only, chain-fair, chain-alone-after-set-up, chain-tallies-after-set-up, chain-spaced, chain-names, chain-names-after-set-up, chain-parties-apart, chain-left-alone, chain-comes-free, chain-all-come-free, chain-free-after-set-up, chain-journals}
use Rattle.runs.proofs.Every.{every-step, every-chain, every-after-set-up}
use Rattle.runs.proofs.PoorNodes.{one_more, refusing-again, idle-again-timers, idle-again-message, idle-again-settings, counting-again, fixed-again, fixed-again-bytes}

-- a run of the rules as a chain has the same calls
calls-made : (h : Held) (cs : List Call) → calls_of (made_of h cs) ≡ cs
unfolding made_of
calls-made h [] = refl
calls-made h (c ∷ cs) = ap (λ (ds : List Call). c ∷ ds) (calls-made (outcome h c).held cs)

-- ---- isolation and fairness: the run of ten calls after a set-up, and ten calls for a frame while all ten berths are due

pub alone-here : EachAlone two two.node.settings two_own (set_up_node two.node.settings two_own) (made_of (with_node two (set_up_node two.node.settings two_own)) two_run)
alone-here =
    chain-alone-after-set-up two two.node.settings two_own (set_up_node two.node.settings two_own) (made_of (with_node two (set_up_node two.node.settings two_own)) two_run)
    (every-after-set-up two two.node.settings two_own two_run afresh-computed.0)

due-made : (k : ℕ) (h : Held) (cs : List Call) → StaysDue k h cs → DueIn k h (made_of h cs)
unfolding StaysDue DueIn made_of
due-made k h [] t = tt
due-made k h (c ∷ cs) t = (t.0, due-made k (outcome h c).held cs t.1)

pub fair-here : Fair 4 (over turn_of (said_by (made_of crowd crowd_run)))
fair-here = chain-fair 4 (lit< tt) crowd (made_of crowd crowd_run) (every-chain crowd crowd_run) (due-made 4 crowd crowd_run crowd-computed.1)

-- ---- the law of the cards: the same run and a tick, with cards of zeros

abbrev start : Held
start = with_node two (set_up_node two.node.settings two_own)

abbrev last_tick : Made
last_tick = record { call = tick; out = outcome (left_by start (made_of start two_run)) tick }

pub cards-here : TalliesAt 5 (left_by start (made_of start two_run ++ last_tick ∷ [])) (history_in 5 start (made_of start two_run ++ last_tick ∷ []))
unfolding made_of left_by final set_up_outcome set_up_refusal first_unmet settings_allowed all
cards-here =
    chain-tallies-after-set-up two two.node.settings two_own (set_up_node two.node.settings two_own) (made_of start two_run) last_tick
    (every-after-set-up two two.node.settings two_own (two_run ++ tick ∷ []) afresh-computed.0) refl 5 (lit< tt) afresh-cards.0

-- ---- settings berth by berth: the same run, in which berth 3's BS is changed to 4, and that change by itself

pub settings-here : (berth_at (left_by start (made_of start two_run)).node 3).settings
    ≡ settings_after (berth_at start.node 3).settings (own_in 3 start (made_of start two_run))
settings-here = chain-settings 3 start (made_of start two_run) (every-chain start two_run)

pub change-here : ChangesOnly 3 1 4 start (outcome start (change 3 1 4)).held
change-here = step-change-only start 3 1 4 (outcome start (change 3 1 4)) (every-step start (change 3 1 4))

-- ---- the law of the gaps: berth 6 asks for 5 ms

pub told-made : (k : ℕ) (h : Held) (cs : List Call) → history_in k h (made_of h cs) ≡ history_of k h cs
told-made k h cs = chain-history k h (made_of h cs) (every-chain h cs) ∙ ap (history_of k h) (calls-made h cs)

-- the same two frames, in the code's own answers
abbrev pub frames_here : TwoFrames (history_in 6 harbour (made_of harbour to_six))
frames_here = subst TwoFrames (sym (told-made 6 harbour to_six)) six_frames

pub spaced-here : Spaced frames_here
spaced-here = chain-spaced 6 harbour (made_of harbour to_six) (every-chain harbour to_six) frames_here

-- ---- the service laptop: after the set-up, and from the node on which a tick ends a message of each party

abbrev sharing : (one other : ℕ) → List Made
sharing one other = made_of start (shared one other)

pub names-here : (k : ℕ) → k < berth_count → (last : Party) → NamesIn k last start (sharing 1 0)
names-here =
    chain-names-after-set-up two two.node.settings two_own (set_up_node two.node.settings two_own) (sharing 1 0)
    (every-after-set-up two two.node.settings two_own (shared 1 0) afresh-computed.0)

pub late-names-here : NamesIn 3 laptop (late laptop scheduler) (made_of (late laptop scheduler) (late_run 0))
unfolding berth_at
late-names-here =
    chain-names 3 laptop (late laptop scheduler) (made_of (late laptop scheduler) (late_run 0)) (every-chain (late laptop scheduler) (late_run 0)) refl

-- the same with the parties the other way round
apart-made : (h h' : Held) (cs cs' : List Call) → PartiesApart h h' cs cs' → PartiesApart h h' (calls_of (made_of h cs)) (calls_of (made_of h' cs'))
apart-made h h' cs cs' a = rw (calls-made h cs, calls-made h' cs') a

pub parties-apart-here : (map unnamed_outcome (outcomes_by (sharing 1 0)) ≡ map unnamed_outcome (outcomes_by (sharing 0 1)))
    × (unnamed_held (left_by start (sharing 1 0)) ≡ unnamed_held (left_by start (sharing 0 1)))
parties-apart-here =
    chain-parties-apart start start (sharing 1 0) (sharing 0 1) (every-chain start (shared 1 0)) (every-chain start (shared 0 1))
    (apart-made start start (shared 1 0) (shared 0 1) (record { start = refl; calls = refl }))

-- ---- every berth comes free: the node with every state of a side, and berth 6 of it while the others are live

owned-made : (k : ℕ) (h : Held) (cs : List Call) → own_in k h (made_of h cs) ≡ owns k h cs
owned-made k h cs = chain-owns k h (made_of h cs) (every-chain h cs) ∙ ap (owns k h) (calls-made h cs)

abbrev ticking : Held → List Made
ticking h = made_of h (replicate most_time tick)

pub free-here : AllComeFree stuck (said_by (ticking stuck)) (left_by stuck (ticking stuck))
free-here =
    chain-all-come-free stuck (ticking stuck) (every-chain stuck (replicate most_time tick)) stuck-sound.order stuck-sound.ten most_time (lit≤ tt)
    (calls-made stuck (replicate most_time tick))

abbrev lived : List Made
lived = made_of stuck (live ++ replicate 1127 tick)

lived-owned : own_in 6 stuck lived ≡ replicate most_time ticks
lived-owned = owned-made 6 stuck (live ++ replicate 1127 tick) ∙ live_owned

pub left-alone-here : LeftAlone most_time 6 stuck (said_by lived) (left_by stuck lived)
left-alone-here = chain-left-alone most_time 6 stuck lived (every-chain stuck (live ++ replicate 1127 tick)) stuck-sound.order (lit< tt) lived-owned

pub comes-free-here : ComesFree 6 stuck (said_by lived) (left_by stuck lived)
comes-free-here = chain-comes-free most_time 6 stuck lived (every-chain stuck (live ++ replicate 1127 tick)) stuck-sound.order (lit< tt) lived-owned (lit≤ tt)

-- after the run of ten calls after a set-up
abbrev after_two : Held
after_two = left_by start (made_of start two_run)

pub free-after-set-up-here : AllComeFree after_two (said_by (ticking after_two)) (left_by after_two (ticking after_two))
free-after-set-up-here =
    chain-free-after-set-up two two.node.settings two_own (set_up_node two.node.settings two_own) (made_of start two_run)
    (every-after-set-up two two.node.settings two_own two_run afresh-computed.0) refl (ticking after_two) (every-chain after_two (replicate most_time tick))
    most_time (lit≤ tt) (calls-made after_two (replicate most_time tick))

-- and ticks that do not suffice, of the node in order that the calls of the power dip leave
pub not-free-here : (n : ℕ) → n < most_time → Idle send_side (berth_at (left_by dipped (made_of dipped (replicate n tick))).node 6) → ⊥
not-free-here n few idle =
    let same = chain-leaves dipped (made_of dipped (replicate n tick)) (every-chain dipped (replicate n tick)) ∙ ap (final dipped) (calls-made dipped (replicate n tick)) in
    sharp.1 n few (ap (λ (g : Held). (berth_at g.node 6).tx) (sym same) ∙ idle)

-- ---- poor nodes after a set-up with A 8, BS 0, STmin 0, of a node that no set-up had filled, with stores and cards of zeros

abbrev unset : Held
unset = record { node = blank_node; incoming = replicate 80 0; outgoing = replicate 80 0; cards = zero_cards }

abbrev eight : Settings
eight = record { area = 8 }

abbrev made : Call → Outcome → Made
made c o = record { call = c; out = o }

-- refusing: a tick that is answered with a refusal is no run
pub refusing-here : (o : Outcome) (number : ℕ) → AfterSetUp unset eight zero_settings (set_up_node eight zero_settings) (made tick o ∷ []) → o.answer ≡ refused number → ⊥
unfolding own own_done left_by refusal needs first_unmet right_cards in_order all berth_in_order set_up_node
refusing-here o number r = refusing-again (one_more [] (made tick o) 0 ticks r (lit< tt) refl) number

-- a fixed answer, and fixed bytes: two single frames of other lengths, and of other bytes
pub fixed-here : (o q : Outcome) → AfterSetUp unset eight zero_settings (set_up_node eight zero_settings) (made (frame 0x640 (0x01 ∷ 7 ∷ [])) o ∷ [])
    → AfterSetUp unset eight zero_settings (set_up_node eight zero_settings) (made (frame 0x640 (0x02 ∷ 7 ∷ 8 ∷ [])) q ∷ []) → o.answer ≡ q.answer → ⊥
unfolding
    own own_done left_by refusal needs first_unmet right_store right_cards in_order all berth_in_order set_up_node berth_at
    came_at frame_came by_kind kind low heard_by single_came single_fits part_of says
fixed-here o q r x =
    fixed-again (one_more [] (made (frame 0x640 (0x01 ∷ 7 ∷ [])) o) 0 (arrives (0x01 ∷ 7 ∷ [])) r (lit< tt) refl)
    (one_more [] (made (frame 0x640 (0x02 ∷ 7 ∷ 8 ∷ [])) q) 0 (arrives (0x02 ∷ 7 ∷ 8 ∷ [])) x (lit< tt) refl)
    (λ e. let f : hears 0 (Delivered 1) ≡ hears 0 (Delivered 2) = e in let z : ◌≡◌ {A = ℕ} 1 2 = cc in omega arith)

pub fixed-bytes-here : (o q : Outcome) → AfterSetUp unset eight zero_settings (set_up_node eight zero_settings) (made (frame 0x640 (0x01 ∷ 7 ∷ [])) o ∷ [])
    → AfterSetUp unset eight zero_settings (set_up_node eight zero_settings) (made (frame 0x640 (0x01 ∷ 8 ∷ [])) q ∷ []) → (part_of 0 o.held).incoming ≡ (part_of 0 q.held).incoming → ⊥
unfolding
    own own_done left_by refusal needs first_unmet right_store right_cards in_order all berth_in_order set_up_node berth_at
    came_at frame_came by_kind kind low heard_by single_came single_fits part_of state_after part_after area_of
fixed-bytes-here o q r x =
    fixed-again-bytes (one_more [] (made (frame 0x640 (0x01 ∷ 7 ∷ [])) o) 0 (arrives (0x01 ∷ 7 ∷ [])) r (lit< tt) refl)
    (one_more [] (made (frame 0x640 (0x01 ∷ 8 ∷ [])) q) 0 (arrives (0x01 ∷ 8 ∷ [])) x (lit< tt) refl)
    (λ e. let z : ◌≡◌ {A = ℕ} 7 8 = ap (λ (l : List ℕ). get_or l 0 0) e in omega arith)

-- doing nothing: a message was sent, and a tick leaves its berth as it was
abbrev after_send : List Made
after_send = made_of (with_node unset (set_up_node eight zero_settings)) (send 0 0 (1 ∷ []) ∷ [])

pub idle-here : (o : Outcome) → AfterSetUp unset eight zero_settings (set_up_node eight zero_settings) (after_send ++ made tick o ∷ [])
    → (part_of 0 o.held).berth ≡ (part_of 0 (left_by (with_node unset (set_up_node eight zero_settings)) after_send)).berth → ⊥
unfolding
    made_of own own_done left_by refusal needs first_unmet right_store right_cards in_order all berth_in_order set_up_node berth_at
    outcome done with_berth sent_berth begins_with part_of
idle-here o r = idle-again-timers (one_more after_send (made tick o) 0 ticks r (lit< tt) refl) (λ e. let f : Tx.SingleDue scheduler 1 0 ≡ Tx.Idle = e.1 in let z : ◌≡◌ {A = ℕ} 0 1 = cc in omega arith)

-- and a send leaves the outgoing area as it was
pub idle-message-here : (o : Outcome) → AfterSetUp unset eight zero_settings (set_up_node eight zero_settings) (made (send 0 0 (1 ∷ [])) o ∷ [])
    → (part_of 0 o.held).outgoing ≡ (part_of 0 (with_node unset (set_up_node eight zero_settings))).outgoing → ⊥
unfolding own own_done left_by refusal needs first_unmet right_store right_cards in_order all berth_in_order set_up_node berth_at part_of area_of
idle-message-here o r =
    idle-again-message scheduler (1 ∷ []) (one_more [] (made (send 0 0 (1 ∷ [])) o) 0 (sends scheduler (1 ∷ [])) r (lit< tt) refl)
    (λ e. let z : ◌≡◌ {A = ℕ} 0 1 = ap (λ (l : List ℕ). get_or l 0 0) e in omega arith)

-- and a change of the block size leaves the settings as they were
pub idle-settings-here : (o : Outcome) → AfterSetUp unset eight zero_settings (set_up_node eight zero_settings) (made (change 0 1 5) o ∷ [])
    → (part_of 0 o.held).berth.settings ≡ (part_of 0 (with_node unset (set_up_node eight zero_settings))).berth.settings → ⊥
unfolding own own_done left_by refusal needs first_unmet in_order all berth_in_order value_allowed set_up_node berth_at part_of changed_settings
idle-settings-here o r =
    idle-again-settings 1 5 (one_more [] (made (change 0 1 5) o) 0 (changes 1 5) r (lit< tt) refl)
    (λ e. let z : ◌≡◌ {A = ℕ} 5 0 = ap (λ (x : BerthSettings). x.block) e in omega arith)

-- counting only: a first frame of eight bytes came in and go was handed over; the consecutive frame leaves the area as it was
abbrev after_go : List Made
after_go = made_of (with_node unset (set_up_node eight zero_settings)) (frame 0x640 (0x10 ∷ 8 ∷ 1 ∷ 2 ∷ 3 ∷ 4 ∷ 5 ∷ 6 ∷ []) ∷ turn blank ∷ [])

pub counting-here : (o : Outcome) → AfterSetUp unset eight zero_settings (set_up_node eight zero_settings) (after_go ++ made (frame 0x640 (0x21 ∷ 7 ∷ 8 ∷ [])) o ∷ [])
    → (part_of 0 o.held).incoming ≡ (part_of 0 (left_by (with_node unset (set_up_node eight zero_settings)) after_go)).incoming → ⊥
unfolding
    made_of own own_done left_by refusal needs first_unmet right_store right_cards in_order all berth_in_order taking_in_range in_block set_up_node berth_at
    outcome done after_frame after_turn added_at stored with_berth came_at frame_came by_kind kind low heard_by first_came first_fits announced short_length escape_length begun
    awaited_came completed consecutive_fits piece share passed_over least_distance distance due reached served_node handed_at hand_over part_of area_of
counting-here o r =
    counting-again (0x21 ∷ 7 ∷ 8 ∷ []) (record { total = 8; got = 6; sn = record { 0 = 1 }; taken = 0 }) 0
    (one_more after_go (made (frame 0x640 (0x21 ∷ 7 ∷ 8 ∷ [])) o) 0 (arrives (0x21 ∷ 7 ∷ 8 ∷ [])) r (lit< tt) refl) refl refl tt refl
    (λ e. let z : ◌≡◌ {A = ℕ} 0 7 = ap (λ (l : List ℕ). get_or l 0 0) e in omega arith)

-- ---- the journal of the run of ten calls: a message sent and one delivered after the first tick, a reception timed out at the second

abbrev ten : List Made
ten = made_of two two_run

ten-said : said_by ten ≡ answers two two_run
ten-said = chain-says two ten (every-chain two two_run) ∙ ap (answers two) (calls-made two two_run)

abbrev entry_of : (kind berth code length tick : ℕ) → Entry
entry_of side k code n t = record { kind = side; berth = k; code = code; length = n; tick = t }

pub journal-here : (journal_of (said_by ten) ≡ entry_of 2 5 1 0 1 ∷ entry_of 1 5 1 2 1 ∷ entry_of 1 3 4 0 2 ∷ [])
    × (reports_of (said_by ten)
    ≡ record { berth = 5; side = send_side; code = 1; party = scheduler } ∷ record { berth = 5; side = receive; code = 1; party = scheduler }
    ∷ record { berth = 3; side = receive; code = 4; party = scheduler } ∷ [])
    × (file_of (journal_of (said_by ten))
    ≡ 2 ∷ 5 ∷ 1 ∷ 0 ∷ 0 ∷ 0 ∷ 0 ∷ 0 ∷ 0 ∷ 0 ∷ 0 ∷ 0 ∷ 0 ∷ 0 ∷ 0 ∷ 1 ∷ 1 ∷ 5 ∷ 1 ∷ 0 ∷ 0 ∷ 2 ∷ 0 ∷ 0 ∷ 0 ∷ 0 ∷ 0 ∷ 0 ∷ 0 ∷ 0 ∷ 0 ∷ 1
    ∷ 1 ∷ 3 ∷ 4 ∷ 0 ∷ 0 ∷ 0 ∷ 0 ∷ 0 ∷ 0 ∷ 0 ∷ 0 ∷ 0 ∷ 0 ∷ 0 ∷ 0 ∷ 2 ∷ [])
    × (answered_ticks (said_by ten) ≡ 2)
unfolding
    journal_from entries_of noted word_entries codes_entries kind_of is_tick ticks_after reports_of reports reported word_reports codes_reports file_of record_of bytes_of
    answered_ticks
journal-here = rw (ten-said, two-computed.0) (refl, refl, refl, refl)

pub journals-here : Journals (said_by ten) × AllWithin (journal_of (said_by ten))
journals-here =
    let j = chain-journals two ten (every-chain two two_run) in
    let n = journal-here.3 in
    (j, j.all-within (omega arith))
