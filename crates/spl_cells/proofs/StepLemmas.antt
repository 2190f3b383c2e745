-- One step of what sets a frame: a value that is pushed, and a store that takes it; and one step after another.
use Rattle.std.proofs.Common.{◌≡◌, ℕ, ◌+◌, ◌-◌, ◌≤◌, ◌<◌, true, false, List, [], sym, ap, subst, ◌∙◌, refl, arith}
use Rattle.std.specs.Prelude.{Option, None, is_some, ◌&&◌, nat_lt, nat_le}
use Rattle.std.proofs.lemmas.Bool.{ltb-true, leb-true, false≢true}
use Rattle.spl_procedures.specs.hp_word.declared.arithmetic.Code.{Code}
use Rattle.spl_procedures.specs.hp_session.State.{Machine}
use Rattle.spl_procedures.specs.spl_meaning.References.{Setting, address_of}
use Rattle.spl_procedures.specs.spl_meaning.Places.{Place, data_word, above_base, below_base, below_return}
use Rattle.spl_procedures.specs.spl_meaning.Bodies.{Body}
use Rattle.spl_procedures.specs.spl_meaning.States.{Data, State, done}
use Rattle.spl_procedures.specs.spl_code.Code.{as_value}
use Rattle.spl_procedures.specs.spl_follow.Spots.{Spot, spot, pos, Point, on, Ground}
use Rattle.spl_procedures.specs.spl_follow.Matching.{Matched, Coded, IsValue}
use Rattle.spl_procedures.specs.spl_follow.Following.{Rate, tally, Follows, NoExit}
use Rattle.spl_procedures.specs.spl_follow.Standing.{Sites, Stands}
use Rattle.spl_procedures.specs.spl_follow.Parts.{Ready, Gives, Completes}
use Rattle.spl_procedures.specs.spl_follow.Simulating.{Surroundings}
use Rattle.spl_procedures.proofs.spl_follow_proofs.FollowLemmas.{then_follows}
use Rattle.spl_procedures.proofs.spl_follow_proofs.KeepLemmas.{kept_same, arrives_after}
use Rattle.spl_procedures.proofs.spl_follow_proofs.WayLemmas.{goes_none, goes_on}
use Rattle.spl_procedures.specs.spl_values.Reached.{is_reached}
use Rattle.spl_procedures.proofs.spl_values_proofs.VariableLemmas.{both}
use Rattle.spl_procedures.specs.Procedures.{procedure_setting, HasLocals}
use Rattle.spl_cells.specs.Settable.{is_local}

-- nowhere: where the ways out of no statement lead
abbrev nowhere : Spot
nowhere = record { seg = 0; offset = 0; right = false }

-- what the code finds around it, in no split mode; it wants no name and has no statement
abbrev pub around : Ground → Rate → Sites → Body → Surroundings
around g w sites b = record {
  ground = g;
  rate = w;
  sites = sites;
  wants = [];
  setting = procedure_setting false b.profile;
  exits = record { target = λ x. nowhere; held = λ x. 0 };
}

module _ (g : Ground) (w : Rate) (sites : Sites) (b : Body) where
  abbrev pub whole : Setting
  whole = procedure_setting false b.profile

  -- at p, in a frame whose local words are there, and above which is room
  pub record Fresh (p : Spot) (s : State) (m : Machine) : Type 0 where
    pub at : spot m ≡ p
    pub matches : Matched whole s.now m 0
    pub locals : HasLocals b s.now
    pub room : s.now.top + 8 ≤ s.now.stack
    pub silent : s.code ≡ None

  -- the state with other data words
  abbrev pub with_words : State → (ℕ → Option ℕ) → State
  with_words s mem = record s { now = record s.now { mem = mem } }

  -- from p to q the code leaves these data words
  abbrev pub Stepped : Spot → Spot → (ℕ → Option ℕ) → State → Machine → Type 0
  Stepped p q mem s m = Follows g w (pos q - pos p) 0 0 (tally s) m (Completes whole q 0 s.now m) NoExit (done tt (with_words s mem))

  -- there the next step begins, where all words are there still
  pub fresh_on : (p q : Spot) (mem : ℕ → Option ℕ) (s : State) (m : Machine) (x : Stepped p q mem s m) → Fresh p s m
      → ((a : ℕ) → is_some (s.now.mem a) ≡ true → is_some (mem a) ≡ true) → Fresh q (with_words s mem) x.0
  fresh_on p q mem s m x f keeps = record {
    at = x.2.at;
    matches = x.2.matches;
    locals = record { top = f.locals.top; there = λ a above below. keeps a (f.locals.there a above below) };
    room = f.room;
    silent = f.silent;
  }

  -- one step, and then another
  pub steps_join : (p r q : Spot) (mem later : ℕ → Option ℕ) (s : State) (m : Machine) → pos p ≤ pos r → pos r ≤ pos q → (x : Stepped p r mem s m)
      → Stepped r q later (with_words s mem) x.0 → Stepped p q later s m
  steps_join p r q mem later s m before after x y = (
    y.0,
    goes_on g w (pos r - pos p) 0 0 (pos q - pos r) 0 0 (pos q - pos p) 0 0 (tally s) m (tally (with_words s mem)) x.0 (tally (with_words s later)) y.0 x.1 y.1
        (omega (arith, before, after)) (omega arith),
    arrives_after whole q 0 0 s.now m (with_words s mem).now x.0 (with_words s later) y.0 (omega arith) x.2.kept y.2,
  )

  -- nothing is done
  pub none_follow : (p q : Spot) (s : State) (m : Machine) → Stands g sites (on p) [] q → Fresh p s m → Stepped p q s.now.mem s m
  none_follow p q s m stands f = (
    m,
    goes_none g w (pos q - pos p) 0 (tally s) m,
    record {
      at = f.at ∙ ap (λ (z : Point). z.at) stands;
      matches = f.matches;
      kept = kept_same (s.now.top + 0) s.now m.stack;
      coded = subst (λ (o : Option Code). Coded o m.regs.code) (sym f.silent) tt;
    },
  )

  -- ---- values

  -- a part of an expression may begin there
  pub fresh_ready : (p : Spot) (s : State) (m : Machine) → Fresh p s m → Ready whole s.left (on p) 0 8 s s.begun m
  fresh_ready p s m f =
      let room = f.room in
      record { at = f.at; owes = refl; matches = f.matches; silent = f.silent; room = omega (arith, room); fuel = omega arith }

  -- a value that is pushed, and behind it a store, which leaves these data words
  pub value_then : (p r q : Spot) (n : ℕ) (vs : List ℕ) (mem : ℕ → Option ℕ) (s : State) (m : Machine) → pos p ≤ pos r → pos r ≤ pos q
      → Gives g w whole sites.marks as_value n (on p) r 0 s s.begun m (done vs s)
      → ((m1 : Machine) → IsValue whole r n 0 s.now m vs s m1
      → Follows g w (pos q - pos r) 0 w.reach (tally s) m1 (Completes whole q 0 s.now m) NoExit (done tt (with_words s mem)))
      → Stepped p q mem s m
  value_then p r q n vs mem s m before after x stores =
      let many = w.enough in
      then_follows g w (pos r - pos p) 1 w.reach (pos q - pos r) 0 w.reach (pos q - pos p) 0 0 (tally s) m (tally s) x.0 (Completes whole q 0 s.now m) NoExit
      (done tt (with_words s mem)) x.1 (stores x.0 x.2) (omega (arith, before, after)) (omega (arith, many)) (omega (arith, many))

-- ---- local words

-- a local item stands above the base, its words are there, and it is reached
pub record Local (b : Body) (count : ℕ) (place : Place) (d : Data) : Type 0 where
  pub low : d.base < address_of place d
  pub high : address_of place d + count ≤ d.top
  pub reached : is_reached (procedure_setting false b.profile) 0 place ≡ true

pub local_is : (b : Body) (count : ℕ) (place : Place) (d : Data) → is_local b.words count place ≡ true → HasLocals b d → Local b count place d
local_is b count (above_base n) d e h =
    let one = both (nat_lt 0 n && nat_le (n + count) (b.words + 1)) (nat_lt n 128) e in
    let two = both (nat_lt 0 n) (nat_le (n + count) (b.words + 1)) one.0 in
    let low = ltb-true 0 n two.0 in
    let high = leb-true (n + count) (b.words + 1) two.1 in
    let top = h.top in
    record { low = omega (arith, low); high = omega (arith, high, top); reached = one.1 }
local_is b count (data_word a) d e h = absurd (false≢true e)
local_is b count (below_base n) d e h = absurd (false≢true e)
local_is b count (below_return n) d e h = absurd (false≢true e)
