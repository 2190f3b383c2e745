-- Which targets of assignments of one word are proved. A further construct makes it larger.
use Rattle.std.specs.Prelude.{ℕ, ◌&&◌, ◌||◌, Bool, false, List, Option, Some, None}
use Rattle.spl_covered.specs.spl_tree.declared.expressions.Kind.{Kind}
use Rattle.spl_covered.specs.spl_tree.Trees as tree
use Rattle.spl_covered.specs.spl_tree.Trees.{Tree}
use Rattle.spl_covered.specs.spl_tree.StatementTrees as stat
use Rattle.spl_covered.specs.spl_tree.StatementTrees.{Target}
use Rattle.spl_covered.specs.spl_meaning.Kinds.{Operand, of, named_operand}
use Rattle.spl_covered.specs.spl_meaning.Names as n
use Rattle.spl_covered.specs.spl_meaning.Names.{Names, Sort}
use Rattle.spl_covered.specs.spl_meaning.Places.{Place}
use Rattle.spl_covered.specs.spl_meaning.References.{Setting, Access, its_own, access_of}
use Rattle.spl_covered.specs.spl_meaning.Statements.{is_intrinsic_alone, target_keeps_code}
use Rattle.spl_covered.specs.spl_meaning.Values.{Who, small_constant}
use Rattle.spl_covered.specs.spl_code.Calls.{Scope}
use Rattle.spl_covered.specs.spl_values.Reached.{is_word_kind}
use Rattle.spl_top_fields.specs.spl_field_stores.Laws.{is_within}
use Rattle.spl_covered.specs.spl_names.Names.{has_reached, has_seen, is_led, is_led_element}
use Rattle.spl_covered.specs.spl_operators.Laws.{is_single}
use Rattle.spl_covered.specs.spl_whom.Whom.{is_word_result}
use Rattle.spl_covered.specs.Covered.{is_covered}
use Rattle.spl_targets.specs.Results.{result_kind, is_result}

-- An assignment of an intrinsic alone to a target that keeps the condition code of the call: it is no assignment of a value.
abbrev pub keeps_answer : Names → Target → Tree → Bool
keeps_answer names to e = is_intrinsic_alone names e && target_keeps_code names to

-- what holds whole words, which have bit fields
abbrev pub holds_words : Operand → Bool
holds_words (of t) = is_word_kind t
holds_words _ = false

-- a variable with a word of its own, where it is seen
abbrev pub is_own : Setting → ℕ → Access → Option Place → Bool
is_own st k (its_own t) place = has_seen st k place
is_own st k _ place = false

-- a name with bit fields: such a variable, or one whose word leads to a word; and one with elements that have them
abbrev pub has_fields : Setting → ℕ → Option Sort → Option Place → Bool
has_fields st k sort place = holds_words (named_operand sort) && (is_own st k (access_of sort) place || is_led st k (access_of sort) place)

abbrev pub has_field_elements : Setting → ℕ → Option Sort → Option Place → Bool
has_field_elements st k sort place = holds_words (named_operand sort) && is_led_element st k (access_of sort) place

-- A name whose word leads to a word, without an index; an element at an index that is covered; bit fields within such words, and within variables;
-- and the word of a pointer, where it is reached.
abbrev pub is_led_target : (Who → Bool) → Scope → Setting → Target → ℕ → Bool
is_led_target may c st (stat.Target.plain (tree.Tree.named x tree.Trees.none at)) k = is_led st k (access_of (c.names x)) (c.places x)
is_led_target may c st (stat.Target.plain (tree.Tree.named x (tree.Trees.and e tree.Trees.none) at)) k =
    is_led_element st k (access_of (c.names x)) (c.places x) && is_covered may c st e k
is_led_target may c st (stat.Target.field (tree.Tree.named x tree.Trees.none at) start size) k =
    is_within (small_constant c.names start) (small_constant c.names size) && has_fields st k (c.names x) (c.places x)
is_led_target may c st (stat.Target.field (tree.Tree.named x (tree.Trees.and e tree.Trees.none) at) start size) k =
    is_within (small_constant c.names start) (small_constant c.names size) && (has_field_elements st k (c.names x) (c.places x) && is_covered may c st e k)
is_led_target may c st (stat.Target.address x at) k = has_reached st k (c.places x)
is_led_target may c st _ k = false

-- a name on the left of :=, a simple variable or a parameter by value of one word or BYTE, where it is seen
abbrev pub is_stored_name : Setting → ℕ → Option Sort → Option Place → Bool
is_stored_name st k (Some (n.simple t own)) place = is_single t && has_seen st k place
is_stored_name st k (Some (n.value t)) place = is_single t && has_seen st k place
is_stored_name st k _ place = false

-- a name that means a result of one word or BYTE
abbrev pub is_stored_result : Setting → ℕ → Option Sort → Option (Kind × Place) → Option Place → Bool
is_stored_result st k o r place = is_word_result (result_kind o) && is_result st k (result_kind o) r place

-- such a name without an index
abbrev pub is_own_target : Scope → (List ℕ → Option (Kind × Place)) → Setting → Target → ℕ → Bool
is_own_target c results st (stat.Target.plain (tree.Tree.named x tree.Trees.none at)) k =
    is_stored_name st k (c.names x) (c.places x) || is_stored_result st k (c.names x) (results x) (c.places x)
is_own_target c results st to k = false

-- a name that means a result of whole words, which have bit fields, where it is seen
abbrev pub holds_result : Option Kind → Bool
holds_result (Some t) = is_word_kind t
holds_result None = false

abbrev pub has_result_fields : Setting → ℕ → Option Sort → Option (Kind × Place) → Option Place → Bool
has_result_fields st k o r place = holds_result (result_kind o) && is_result st k (result_kind o) r place

-- a bit field of such a result
abbrev pub is_field_target : Scope → (List ℕ → Option (Kind × Place)) → Setting → Target → ℕ → Bool
is_field_target c results st (stat.Target.field (tree.Tree.named x tree.Trees.none at) start size) k =
    is_within (small_constant c.names start) (small_constant c.names size) && has_result_fields st k (c.names x) (results x) (c.places x)
is_field_target c results st to k = false

-- a target of one word: such a name, what a name's word leads to, or a bit field of a result
abbrev pub is_word_target : (Who → Bool) → Scope → (List ℕ → Option (Kind × Place)) → Setting → Target → ℕ → Bool
is_word_target may c results st to k = is_own_target c results st to k || (is_led_target may c st to k || is_field_target c results st to k)
