-- What the parts of a MOVE or a SCAN are: the code of references, as addresses, and of what is moved behind the target's address.
use Rattle.std.specs.Prelude.{◌≡◌, ℕ, ◌<◌, Bool, List}
use Rattle.spl_statement_code.specs.spl_tree.declared.expressions.Kind.{Kind}
use Rattle.spl_statement_code.specs.spl_meaning.References.{Located}
use Rattle.spl_statement_code.specs.spl_meaning.States.{State, Outcome, done, leaves, spent, ends, strays, then_go}
use Rattle.spl_statement_code.specs.spl_meaning.Values.{address_done}
use Rattle.spl_statement_code.specs.spl_code.Code.{as_value}
use Rattle.spl_statement_code.specs.spl_code.Parts.{Part}
use Rattle.hp_call_yields.specs.spl_follow.Matching.{footing, Lies}
use Rattle.hp_call_yields.specs.spl_follow.Simulating.{Surroundings, Simulates}
use Rattle.spl_operands.specs.spl_values.Reached.{IsWhole}

-- where a reference leads, that is of this kind, in the extra segment or not, and its address is a word
abbrev pub LeadsTo : Kind → Bool → Outcome Located → Type 0
LeadsTo t far (done p s) = (p.kind ≡ t) × (p.far ≡ far) × (p.address < 65536)
LeadsTo t far (leaves x s) = Unit {0}
LeadsTo t far (spent s) = Unit {0}
LeadsTo t far (ends x s) = Unit {0}
LeadsTo t far (strays s) = Unit {0}

-- The code of a reference to elements of a kind makes their address. In split mode they are in the extra segment, where the moves find them.
pub record IsReference (z : Surroundings) (d k need : ℕ) (t : Kind) (part : Part) (to : State → Outcome Located) : Type 0 where
  pub whole : IsWhole part
  pub leads : (s : State) → Lies z.setting (footing s.now) → LeadsTo t z.setting.split (to s)
  pub simulates : Simulates z d as_value 1 k need part (λ s. then_go (to s) (λ p u. address_done p u))

-- Code whose answer of one word is a value: it is whole, and simulates what is meant.
pub record Answers (z : Surroundings) (d k need : ℕ) (part : Part) (meaning : State → Outcome (List ℕ)) : Type 0 where
  pub whole : IsWhole part
  pub simulates : Simulates z d as_value 1 k need part meaning
