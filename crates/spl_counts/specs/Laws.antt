-- The laws of this crate: FOR over its parts as variables, and how its variable is stored and addressed.
use Rattle.std.specs.Prelude.{◌≡◌, ℕ, suc, ◌+◌, ◌-◌, ◌≤◌, true, false, min, List, [], ◌∷◌}
use Rattle.spl_choices.specs.hp_session.State.{Machine}
use Rattle.spl_choices.specs.spl_tree.declared.names_and_places.At.{At}
use Rattle.spl_choices.specs.spl_tree.declared.expressions.Kind.TheVariants as kind
use Rattle.spl_choices.specs.spl_branch.declared.pieces.Piece.{Piece}
use Rattle.spl_choices.specs.spl_branch.declared.pieces.Piece.TheVariants.{Begin}
use Rattle.spl_choices.specs.spl_meaning.Elements.{with_one}
use Rattle.spl_choices.specs.spl_meaning.Places.{Place}
use Rattle.spl_choices.specs.spl_meaning.References.{Setting, its_own, by_address, address_of, variable_located, element_address, element_located, word_at, store}
use Rattle.spl_choices.specs.spl_meaning.States.{Data, State, Outcome, done, then_go, stopping, code_dropped}
use Rattle.spl_choices.specs.spl_meaning.Statements as meant
use Rattle.spl_choices.specs.spl_code.Code.{as_value}
use Rattle.spl_choices.specs.spl_code.Operands.{mode_of}
use Rattle.spl_choices.specs.spl_code.Parts.{Part, pieces, piece, ◌⨟◌}
use Rattle.spl_choices.specs.spl_code.Stores.{from_top}
use Rattle.spl_choices.specs.spl_statement_code.Statements.{counter_at, turns}
use Rattle.spl_choices.specs.spl_follow.Spots.{Spot, pos, on}
use Rattle.spl_choices.specs.spl_follow.Matching.{IsValue}
use Rattle.spl_choices.specs.spl_follow.Following.{tally, Follows, NoExit}
use Rattle.spl_choices.specs.spl_follow.Standing.{Stands, IsClosed}
use Rattle.spl_choices.specs.spl_follow.Simulating.{Surroundings, Simulates, Performs}
use Rattle.spl_tops.specs.spl_values.Reached.{is_seen, IsWhole}

-- the same surroundings, but that no way out leaves more than k words waiting
abbrev pub leaving_at_most : ℕ → Surroundings → Surroundings
leaving_at_most k z = record z { exits = record z.exits { held = λ x. min (z.exits.held x) k } }

-- an address on k words
abbrev pub Addressed : Setting → Spot → ℕ → Data → Machine → ℕ → State → Machine → Type 0
Addressed st q k d0 m0 a s m = IsValue st q 1 k d0 m0 (a ∷ []) s m

-- What stands behind the first value of a FOR: it is stored in the variable, and the address of that stays in its place.
pub record Heads (z : Surroundings) (k : ℕ) (ps : List Piece) (head : List ℕ → State → Outcome ℕ) : Type 0 where
  pub closed : IsClosed ps
  pub does : (p q : Spot) (vs : List ℕ) (s : State) (m : Machine) (d0 : Data) (m0 : Machine) → Stands z.ground z.sites (on p) ps q
      → IsValue z.setting p 1 k d0 m0 vs s m → d0.top + k + 3 ≤ d0.stack
      → Follows z.ground z.rate (pos q - pos p) 0 z.rate.reach (tally s) m (Addressed z.setting q k d0 m0) NoExit (head vs s)
  pub rise : (p q : Spot) → Stands z.ground z.sites (on p) ps q → pos p ≤ pos q

-- A FOR over such a head. The variable's address, the step and the limit wait while the body runs, and no way out of it leaves them there.
abbrev pub CountsPerform : Type 0
CountsPerform = (z : Surroundings) (d k need one two three number : ℕ) (at : At) (ps : List Piece) (head : List ℕ → State → Outcome ℕ) (a b c e : Part)
    (first step last : State → Outcome (List ℕ)) (body : State → Outcome (Unit {0})) → Heads z k ps head
    → one + 1 ≤ need → two + 2 ≤ need → three + 3 ≤ need → IsWhole a → IsWhole b → IsWhole c → IsWhole e → Simulates z d as_value 1 k need a first
    → Simulates z d as_value 1 (k + 1) one b step → Simulates z d as_value 1 (k + 2) two c last → Performs (leaving_at_most k z) d (k + 3) three e body
    → Performs z d k need
    (piece (Begin at) ⨟ (a ⨟ pieces ps ⨟ b ⨟ c) ⨟ turns e)
    (λ s. stopping number at s (λ u. then_go (first u) (λ vs v. then_go (head vs v) (λ x s1.
    then_go (step s1) (λ us s2. then_go (last s2) (λ ws s3. with_one us s3 (λ by s4. with_one ws s4 (λ to s5.
    meant.counting (suc d) (variable_located kind.Integer x) by to (λ t. code_dropped (body t)) s5))))))))

-- ---- heads

-- of an INTEGER variable of its own words, at a place that is seen: where it is counted from the top, X takes back what the value has moved
abbrev pub own_head : Place → List ℕ → State → Outcome ℕ
own_head place vs s = then_go (store (variable_located kind.Integer (address_of place s.now)) vs s) (λ _ t. done (address_of place s.now) t)

abbrev pub OwnCounters : Type 0
OwnCounters = (z : Surroundings) (k : ℕ) (place : Place) → is_seen z.setting k place ≡ true
    → Heads z k (counter_at (its_own kind.Integer) (from_top place) (mode_of k place)) (own_head place)

-- Of an INTEGER parameter by reference, in no split mode: its word, at a place that is seen, is the address of what it stands for.
abbrev pub passed_head : Place → List ℕ → State → Outcome ℕ
passed_head place vs s =
    then_go (word_at false (address_of place s.now) s) (λ cell t.
    then_go (store (element_located false kind.Integer cell 0) vs t) (λ _ u. done (element_address kind.Integer cell 0) u))

abbrev pub PassedCounters : Type 0
PassedCounters = (z : Surroundings) (k : ℕ) (place : Place) → is_seen z.setting k place ≡ true → z.setting.split ≡ false
    → Heads z k (counter_at (by_address kind.Integer) (from_top place) (mode_of k place)) (passed_head place)
