-- Isolation: which events of the node's run are berth k's own, and what the answers say of that berth.
use Rattle.std.specs.Prelude.{ℕ, ◌*◌, ◌≡◌, Bool, ◌&&◌, List, [], ◌∷◌, ◌++◌, length, get_or, take, ltb, eqb}
use Rattle.rules.specs.Tests.{pick, unless}
use Rattle.rules.specs.Numbers.{berth_count}
use Rattle.rules.specs.Parties.{scheduler}
use Rattle.rules.specs.Turns.{length_sending}
use Rattle.rules.specs.Nodes.{fresh_with, Held}
use Rattle.rules.specs.Ranges.{InOrder}
use Rattle.rules.specs.Stores.{area_of, passed_over, reached}
use Rattle.rules.specs.Cards.{card_at}
use Rattle.rules.specs.Answers.{Answer, refused, ready, heard, codes, sent, handed, none, shown, changed, receive, send as send_side, Report, reported, word_reports, for_taker, reports}
use Rattle.rules.specs.Events.{Call, frame, tick, send, turn, show, change, sender_of, Event, arrives, ticks, sends, turns, changes}
use Rattle.rules.specs.Refusals.{refusal}
use Rattle.rules.specs.Calls.{chosen, outcome, set_up_outcome, showing}
use Rattle.rules.specs.Alone.{part_of, alone, says_all, Part, Says, hears, expires, accepts, hands, adopts}
use Rattle.rules.specs.declared.Settings.{Settings}
use Rattle.rules.specs.declared.BerthSettings.{BerthSettings}
use Rattle.rules.specs.declared.Choice.{Choice}
use Rattle.rules.specs.Words.{Codes}

-- one list for each element, all in one
unfoldable pub over : {X Y : Type 0} → (X → List Y) → List X → List Y
over f [] = []
over f (x ∷ xs) = f x ++ over f xs

-- ---- berth k's own events: its frames, sends and changes, all ticks, and the turns it received

unfoldable pub own_done : ℕ → Held → Call → List Event
own_done k h (frame id d) = pick (eqb (sender_of id) k) (arrives d ∷ []) []
own_done k h tick = ticks ∷ []
own_done k h (send j party m) = pick (eqb j k) (sends (record { 0 = party }) m ∷ []) []
own_done k h (turn buffer) = pick (ltb (passed_over h.node) berth_count && eqb (reached h.node) k) (turns ∷ []) []
own_done k h (show j choice) = []
own_done k h (change j parameter value) = pick (eqb j k) (changes parameter value ∷ []) []

-- calls that the paper refuses are left out
unfoldable pub own : ℕ → Held → Call → List Event
own k h c = unless (refusal h c) (λ n. []) (own_done k h c)

unfoldable pub owns : ℕ → Held → List Call → List Event
owns k h [] = []
owns k h (c ∷ cs) = own k h c ++ owns k (outcome h c).held cs

-- ---- what an answer says of berth k

abbrev pub no_codes : Codes
no_codes = record { receive = 0; send = 0; party = scheduler }

unfoldable pub says_of : ℕ → Answer → List Says
says_of k (refused n) = []
says_of k ready = []
says_of k (heard j old w) = pick (eqb j k) (hears old w ∷ []) []
says_of k (codes cs) = expires (get_or cs k no_codes).receive (get_or cs k no_codes).send (get_or cs k no_codes).party ∷ []
says_of k (sent j) = pick (eqb j k) (accepts ∷ []) []
says_of k (handed id f c passed party) = for_taker id (λ j. pick (eqb j k) (hands f c party ∷ []) []) []
says_of k (none passed) = []
says_of k (shown part) = []
says_of k (changed j) = pick (eqb j k) (adopts ∷ []) []

-- ---- reports

-- those for which a test holds
unfoldable pub only : (Report → Bool) → List Report → List Report
only f [] = []
only f (r ∷ rs) = pick (f r) (r ∷ only f rs) (only f rs)

-- those of berth k
unfoldable pub of_berth : ℕ → List Report → List Report
of_berth k rs = only (λ r. eqb r.berth k) rs

-- those in what berth k says
unfoldable pub said_reports : ℕ → Says → List Report
said_reports k (hears old w) = reported k receive old scheduler ++ word_reports k w
said_reports k (expires r s party) = reported k receive r scheduler ++ reported k send_side s party
said_reports k accepts = []
said_reports k (hands f c party) = reported k send_side c party
said_reports k adopts = []

-- ---- show, from a berth's own part: the last message arrived, or the message now being sent

unfoldable pub part_shown : Part → Choice → List ℕ
part_shown p choice =
    chosen choice (take p.berth.last p.incoming) (take (length_sending p.berth.tx) p.outgoing)

-- ---- what is lent is sound: the node in order, both stores of the right length, ten cards

pub record Sound (h : Held) : Type 0 where
  pub order : InOrder h.node
  pub incoming : length h.incoming ≡ berth_count * h.node.settings.area
  pub outgoing : length h.outgoing ≡ berth_count * h.node.settings.area
  pub ten : length h.cards ≡ berth_count

-- ---- after a set-up

-- what a set-up with these settings leaves, all ten berths with the same
abbrev pub set_up : Held → Settings → BerthSettings → Held
set_up h s alike = (set_up_outcome h s.area alike.block alike.stmin).held

-- berth k fresh with its settings, its areas as the stores have them, and its card as the list has it
abbrev pub fresh_part : Held → Settings → BerthSettings → ℕ → Part
fresh_part h s alike k =
    record {
      berth = fresh_with alike;
      incoming = area_of s.area k h.incoming;
      outgoing = area_of s.area k h.outgoing;
      card = card_at h.cards k;
    }

-- ---- isolation

-- what isolation says of berth k in a run that begins with h, if its own events, the answers and what the run leaves are these: its
-- state, areas and card; its words, codes and frames; its reports; and, if the node is in order and the stores have their lengths, what
-- a show of it returns after the run, are those of its own events on that berth alone
pub record Alone (s : Settings) (start : Part) (k : ℕ) (h : Held) (own : List Event) (said : List Answer) (end : Held) : Type 0 where
  pub part : part_of k end ≡ alone s start own
  pub says : over (says_of k) said ≡ says_all s start own
  pub reported : of_berth k (over reports said) ≡ over (said_reports k) (says_all s start own)
  pub shown : Sound h → (choice : Choice) → showing end k choice ≡ part_shown (alone s start own) choice
