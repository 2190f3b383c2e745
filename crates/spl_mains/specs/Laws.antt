-- The laws of this crate.
use Rattle.std.specs.Prelude.{◌≡◌, ℕ, ◌+◌, ◌≤◌, Bool, true, false, List, [], Option}
use Rattle.spl_followed.specs.hp_session.State.{Machine}
use Rattle.spl_followed.specs.spl_tree.declared.expressions.Kind.{Kind}
use Rattle.spl_followed.specs.spl_tree.StatementTrees as stat
use Rattle.spl_followed.specs.spl_tree.StatementTrees.{Statement, Statements}
use Rattle.spl_followed.specs.spl_meaning.Bodies.{Body, program_of}
use Rattle.spl_followed.specs.spl_meaning.Laws.{IsFront}
use Rattle.spl_followed.specs.spl_meaning.Pending.{statements_most}
use Rattle.spl_followed.specs.spl_meaning.StatementRules.{list_labels}
use Rattle.spl_followed.specs.spl_meaning.Places.{Place}
use Rattle.spl_followed.specs.spl_meaning.Runs.{calls}
use Rattle.spl_followed.specs.spl_meaning.States.{State, back}
use Rattle.spl_followed.specs.spl_meaning.Statements.{run_all, run_body}
use Rattle.spl_followed.specs.spl_meaning.Tables.{Source}
use Rattle.spl_followed.specs.spl_meaning.Values.{Who, Callee}
use Rattle.spl_followed.specs.spl_code.Parts.{Wanted}
use Rattle.spl_stores.specs.spl_statement_code.Landings.{Context}
use Rattle.spl_stores.specs.spl_statement_code.Statements.{listed}
use Rattle.spl_followed.specs.spl_follow.Spots.{Spot, pos, on}
use Rattle.spl_followed.specs.spl_follow.Following.{tally, Follows}
use Rattle.spl_followed.specs.spl_follow.Parts.{Begins, Completes, Returning}
use Rattle.spl_followed.specs.spl_follow.Standing.{Stands}
use Rattle.spl_followed.specs.spl_follow.Simulating.{Surroundings}
use Rattle.spl_followed.specs.Mains.{main_setting, MainStatementsFollow}
use Rattle.spl_stores.specs.spl_names.Names.{read_with}
use Rattle.spl_stores.specs.spl_jumps.Landed.{are_landed, MayJump}
-- (whoever follows a body asks the same of it)
pub use Rattle.spl_stores.specs.spl_targets.Results.{result_kind, ResultsAgree}
pub use Rattle.spl_stores.specs.Covered.{are_covered}
pub use Rattle.spl_stores.specs.Laws.{MayReturn}
use Rattle.spl_stores.specs.spl_links.Links.{MayCall}

-- Where the code of a body's statements stands from `first` to `leave`, all are covered, the code was made with the body's names and places, its room
-- is above all that waits in them, its calls find what they name, RETURN leads to `leave` where it may stand, and its labels and jumps lead somewhere,
-- they are followed.
abbrev pub CoveredBodiesFollow : Type 0
CoveredBodiesFollow = (may : Who → Bool) (returns : Bool) (c : Context) (results : List ℕ → Option (Kind × Place)) (z : Surroundings) (call : Callee)
    (d number need : ℕ) (ss : Statements) (first leave : Spot) (l : ℕ) (ws : List Wanted) → z.exits.target back ≡ leave
    → (returns ≡ true → MayReturn c.leave z) → statements_most c.scope.names ss + 8 ≤ need → are_covered may returns c.scope results z.setting ss 0 ≡ true
    → Stands z.ground z.sites (on first) (listed c ss 0 l ws).pieces leave → IsFront (listed c ss 0 l ws).wants z.wants → pos leave ≤ z.rate.step
    → MayCall may c.scope z d call → ResultsAgree c.scope results → MayJump c.landings z [] 0 → are_landed c.landings (list_labels ss) ss 0 ≡ true
    → (s : State) (m : Machine) → Begins z.setting d first 0 need s m
    → Follows z.ground z.rate 0 3 0 (tally s) m (Completes z.setting leave 0 s.now m) (Returning z.setting leave 0 s.now m)
    (run_body (read_with c.scope results z.setting) call d number ss s)

-- So is the statement of a subroutine, which is in no list: its jumps lead to labels within it.
abbrev pub CoveredInnersFollow : Type 0
CoveredInnersFollow = (may : Who → Bool) (returns : Bool) (c : Context) (results : List ℕ → Option (Kind × Place)) (z : Surroundings) (call : Callee)
    (d number need : ℕ) (st : Statement) (first leave : Spot) (l : ℕ) (ws : List Wanted) → z.exits.target back ≡ leave
    → (returns ≡ true → MayReturn c.leave z) → statements_most c.scope.names (stat.Statements.and st stat.Statements.none) + 8 ≤ need
    → are_covered may returns c.scope results z.setting (stat.Statements.and st stat.Statements.none) 0 ≡ true
    → Stands z.ground z.sites (on first) (listed c (stat.Statements.and st stat.Statements.none) 0 l ws).pieces leave
    → IsFront (listed c (stat.Statements.and st stat.Statements.none) 0 l ws).wants z.wants → pos leave ≤ z.rate.step
    → MayCall may c.scope z d call → ResultsAgree c.scope results → MayJump c.landings z [] 0
    → are_landed c.landings [] (stat.Statements.and st stat.Statements.none) 0 ≡ true
    → (s : State) (m : Machine) → Begins z.setting d first 0 need s m
    → Follows z.ground z.rate 0 3 0 (tally s) m (Completes z.setting leave 0 s.now m) (Returning z.setting leave 0 s.now m)
    (run_all (read_with c.scope results z.setting) call d number (stat.Statements.and st stat.Statements.none) 0 s)

-- So are those of a main body, in which no RETURN stands.
abbrev pub CoveredMainBodiesFollow : Type 0
CoveredMainBodiesFollow = (may : Who → Bool) (us : List Source) (b : Body) (c : Context) (z : Surroundings) (first leave : Spot) (l : ℕ) (ws : List Wanted)
    → z.setting ≡ main_setting → z.exits.target back ≡ leave → b.here ≡ read_with c.scope b.here.results main_setting
    → statements_most c.scope.names b.statements + 8 ≤ b.depth' → are_covered may false c.scope b.here.results main_setting b.statements 0 ≡ true
    → Stands z.ground z.sites (on first) (listed c b.statements 0 l ws).pieces leave → IsFront (listed c b.statements 0 l ws).wants z.wants
    → pos leave ≤ z.rate.step → ((d : ℕ) → MayCall may c.scope z d (calls (program_of us).procedures d b)) → ResultsAgree c.scope b.here.results
    → MayJump c.landings z [] 0
    → are_landed c.landings (list_labels b.statements) b.statements 0 ≡ true → MainStatementsFollow z.ground z.rate us b first leave
