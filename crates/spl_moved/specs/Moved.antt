-- Which MOVEs and SCANs in a tree are covered: those whose references and values are, and that move what they find.
use Rattle.std.specs.Prelude.{ℕ, ◌&&◌, not, nat_lt, Bool, true, false, Option, Some, None}
use Rattle.std.specs.List.{list_all}
use Rattle.spl_choices.specs.spl_tree.declared.expressions.Kind.{Kind}
use Rattle.spl_choices.specs.spl_tree.declared.expressions.Kind.TheVariants as kind
use Rattle.spl_choices.specs.spl_tree.Trees as tree
use Rattle.spl_choices.specs.spl_tree.Trees.{Tree}
use Rattle.spl_choices.specs.spl_tree.StatementTrees as stat
use Rattle.spl_choices.specs.spl_tree.StatementTrees.{Source, Effect}
use Rattle.spl_choices.specs.spl_meaning.Values.{Who}
use Rattle.spl_choices.specs.spl_meaning.Kinds.{variable_kind}
use Rattle.spl_choices.specs.spl_meaning.Pending.{behind_first, behind_second}
use Rattle.spl_choices.specs.spl_meaning.References.{Setting, access_of}
use Rattle.spl_choices.specs.spl_code.Calls.{Scope}
use Rattle.spl_choices.specs.spl_statement_code.Effects.{leads_to_bytes}
use Rattle.spl_covered.specs.spl_byte_tests.Elements.{is_moved_place}
use Rattle.spl_covered.specs.Covered.{is_covered, is_covered_address}

-- what is moved is bytes, or else words; a DOUBLE is neither
abbrev pub is_moved_kind : Bool → Option Kind → Bool
is_moved_kind bytes (Some kind.Byte) = bytes
is_moved_kind bytes (Some kind.Double) = false
is_moved_kind bytes (Some t) = not bytes
is_moved_kind bytes None = false

-- a reference to such elements, whose address is covered while k words wait
abbrev pub is_moved : (Who → Bool) → Scope → Setting → Bool → Tree → ℕ → Bool
is_moved may c st bytes (tree.Tree.named x es at) k =
    (is_moved_kind bytes (variable_kind (c.names x)) && is_moved_place st (access_of (c.names x))) && is_covered_address may c st x es k
is_moved may c st bytes e k = false

-- what is moved behind the address of its target: elements from another such reference on, by a count; a string; or bytes of a class
abbrev pub is_moved_source : (Who → Bool) → Scope → Setting → Bool → Bool → Source → ℕ → Bool
is_moved_source may c st used bytes (stat.Source.counted from count) k =
    is_moved may c st bytes from (behind_first used k) && is_covered may c st count (behind_second used k)
is_moved_source may c st used bytes (stat.Source.text text) k = list_all (λ b. nat_lt b 256) text
is_moved_source may c st used bytes (stat.Source.class_of from class) k = bytes && is_moved may c st true from (behind_first used k)

-- a MOVE of such, and a SCAN of bytes, by a test word that is covered
abbrev pub is_covered_effect : (Who → Bool) → Scope → Setting → Bool → Effect → ℕ → Bool
is_covered_effect may c st used (stat.Effect.move to from) k =
    is_moved may c st (leads_to_bytes c to) to k && is_moved_source may c st used (leads_to_bytes c to) from k
is_covered_effect may c st used (stat.Effect.scan from until e) k = is_moved may c st true from k && is_covered may c st e (behind_first used k)
