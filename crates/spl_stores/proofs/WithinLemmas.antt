-- What statements in a tree find around them, from one to those inside it.
use Rattle.std.proofs.Common.{◌≡◌, ℕ, ◌+◌, Bool, true, List, ◌++◌, arith}
use Rattle.std.specs.Prelude.{◌&&◌, min, Option}
use Rattle.spl_counts.specs.spl_tree.declared.expressions.Kind.{Kind}
use Rattle.spl_counts.specs.spl_tree.StatementTrees.{Statement, Statements}
use Rattle.spl_counts.specs.spl_meaning.Places.{Place}
use Rattle.spl_counts.specs.spl_meaning.StatementRules.{list_labels}
use Rattle.spl_counts.specs.spl_meaning.States.{to_label, back}
use Rattle.spl_counts.specs.spl_meaning.Statements.{bears_among}
use Rattle.spl_counts.specs.spl_meaning.Values.{Who, Callee}
use Rattle.spl_counts.specs.spl_statement_code.Landings.{Context}
use Rattle.spl_counts.specs.spl_follow.Simulating.{Surroundings}
use Rattle.spl_counts.proofs.spl_values_proofs.VariableLemmas.{both}
use Rattle.spl_counts.specs.Laws.{leaving_at_most}
use Rattle.spl_jumps.specs.Landed.{is_landing, is_landed, are_landed, MayJump}
use Rattle.spl_jumps.specs.Laws.{listing}
use Rattle.spl_jumps.proofs.LandedLemmas.{jumps_inside}
use Rattle.spl_moved.specs.spl_links.Links.{MayCall}
use Rattle.spl_calls.specs.spl_targets.Results.{ResultsAgree}
use Rattle.spl_stores.specs.Laws.{MayReturn}

-- The calls find what they name, RETURN leads to the way out, and the jumps lead somewhere; and so it is tested of the labels and jumps inside, by the labels of the lists around.
pub record Within (may : Who → Bool) (returns : Bool) (c : Context) (results : List ℕ → Option (Kind × Place)) (z : Surroundings) (d : ℕ) (call : Callee) (k : ℕ) (lands : List (List ℕ) → Bool) : Type 0 where
  pub labels : List (List ℕ)
  pub calls : MayCall may c.scope z d call
  pub agrees : ResultsAgree c.scope results
  pub leads : returns ≡ true → MayReturn c.leave z
  pub jumps : MayJump c.landings z labels k
  pub landed : lands labels ≡ true

-- of a statement, and of a list
abbrev pub Around : (Who → Bool) → Bool → Context → (List ℕ → Option (Kind × Place)) → Surroundings → ℕ → Callee → ℕ → Statement → Type 0
Around may returns c results z d call k s = Within may returns c results z d call k (λ labels. is_landed c.landings labels s k)

abbrev pub AroundAll : (Who → Bool) → Bool → Context → (List ℕ → Option (Kind × Place)) → Surroundings → ℕ → Callee → ℕ → Statements → Type 0
AroundAll may returns c results z d call k ss = Within may returns c results z d call k (λ labels. are_landed c.landings labels ss k)

-- what is tested of both is of each
pub first_within : (may : Who → Bool) (returns : Bool) (c : Context) (results : List ℕ → Option (Kind × Place)) (z : Surroundings) (d : ℕ) (call : Callee) (k : ℕ) (f g : List (List ℕ) → Bool) → Within may returns c results z d call k (λ labels. f labels && g labels) → Within may returns c results z d call k f
first_within may returns c results z d call k f g x = record { labels = x.labels; calls = x.calls; agrees = x.agrees; leads = x.leads; jumps = x.jumps; landed = (both (f x.labels) (g x.labels) x.landed).0 }

pub second_within : (may : Who → Bool) (returns : Bool) (c : Context) (results : List ℕ → Option (Kind × Place)) (z : Surroundings) (d : ℕ) (call : Callee) (k : ℕ) (f g : List (List ℕ) → Bool) → Within may returns c results z d call k (λ labels. f labels && g labels) → Within may returns c results z d call k g
second_within may returns c results z d call k f g x = record { labels = x.labels; calls = x.calls; agrees = x.agrees; leads = x.leads; jumps = x.jumps; landed = (both (f x.labels) (g x.labels) x.landed).1 }

-- a statement before others
pub one_around : (may : Who → Bool) (returns : Bool) (c : Context) (results : List ℕ → Option (Kind × Place)) (z : Surroundings) (d : ℕ) (call : Callee) (k : ℕ) (s : Statement) (ss : Statements)
    → Within may returns c results z d call k (λ labels. is_landed c.landings labels s k && are_landed c.landings labels ss k) → Around may returns c results z d call k s
one_around may returns c results z d call k s ss x = first_within may returns c results z d call k (λ labels. is_landed c.landings labels s k) (λ labels. are_landed c.landings labels ss k) x

pub others_around : (may : Who → Bool) (returns : Bool) (c : Context) (results : List ℕ → Option (Kind × Place)) (z : Surroundings) (d : ℕ) (call : Callee) (k : ℕ) (s : Statement) (ss : Statements)
    → Within may returns c results z d call k (λ labels. is_landed c.landings labels s k && are_landed c.landings labels ss k) → AroundAll may returns c results z d call k ss
others_around may returns c results z d call k s ss x = second_within may returns c results z d call k (λ labels. is_landed c.landings labels s k) (λ labels. are_landed c.landings labels ss k) x

-- one behind its label
pub behind_label : (may : Who → Bool) (returns : Bool) (c : Context) (results : List ℕ → Option (Kind × Place)) (z : Surroundings) (d : ℕ) (call : Callee) (k : ℕ) (y : List ℕ) (s : Statement)
    → Within may returns c results z d call k (λ labels. is_landing (c.landings y) k && is_landed c.landings labels s k) → Around may returns c results z d call k s
behind_label may returns c results z d call k y s x = second_within may returns c results z d call k (λ labels. is_landing (c.landings y) k) (λ labels. is_landed c.landings labels s k) x

-- a list that takes the jumps to its labels
pub list_around : (may : Who → Bool) (returns : Bool) (c : Context) (results : List ℕ → Option (Kind × Place)) (z : Surroundings) (d : ℕ) (call : Callee) (k : ℕ) (ss : Statements) → Within may returns c results z d call k (λ labels. are_landed c.landings (labels ++ list_labels ss) ss k)
    → AroundAll may returns c results (listing (bears_among ss) k z) d call k ss
list_around may returns c results z d call k ss x = record {
  labels = x.labels ++ list_labels ss;
  calls = record { gates = x.calls.gates; entries = x.calls.entries; calls = x.calls.calls };
  agrees = x.agrees;
  leads = λ e. let r = x.leads e in record { leads = r.leads; held = r.held };
  jumps = jumps_inside c.landings z x.labels ss k x.jumps x.landed;
  landed = x.landed;
}

-- the body of a FOR, where three words more wait
pub counted_around : (may : Who → Bool) (returns : Bool) (c : Context) (results : List ℕ → Option (Kind × Place)) (z : Surroundings) (d : ℕ) (call : Callee) (k : ℕ) (s : Statement) → Within may returns c results z d call k (λ labels. is_landed c.landings labels s (k + 3))
    → Around may returns c results (leaving_at_most k z) d call (k + 3) s
counted_around may returns c results z d call k s x = record {
  labels = x.labels;
  calls = record { gates = x.calls.gates; entries = x.calls.entries; calls = x.calls.calls };
  agrees = x.agrees;
  leads = λ e.
      let r = x.leads e in
      let none = r.held in
      let still : min (z.exits.held back) k ≡ 0 = omega (arith, none) in
      record { leads = r.leads; held = still };
  jumps = record {
    marks = x.jumps.marks;
    held = λ y l named is.
        let few = x.jumps.few y l named is in
        let same = x.jumps.held y l named is in
        let at_most : min (z.exits.held (to_label y)) k ≡ l.pending = omega (arith, few, same) in
        at_most;
    few = λ y l named is. let few = x.jumps.few y l named is in omega (arith, few);
  };
  landed = x.landed;
}
