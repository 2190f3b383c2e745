-- What breaks a rule here is among the faults of the part, and the other way round.
use Rattle.std.proofs.Common.{ℕ, ◌≡◌, Bool, true, false, List, [], ◌∷◌, ◌++◌, Option, Some, None, inl, inr, refl, sym, ap, subst, ◌∙◌}
use Rattle.std.specs.Prelude.{◌||◌, not, if◌then◌else◌}
use Rattle.spl_meaning.specs.spl_tree.declared.names_and_places.At.{At}
use Rattle.spl_meaning.specs.spl_tree.declared.expressions.Kind.{Kind}
use Rattle.spl_meaning.specs.spl_tree.declared.expressions.Kind.TheVariants as kind
use Rattle.spl_meaning.specs.spl_tree.Trees as tree
use Rattle.spl_meaning.specs.spl_tree.Trees.{Tree, Constant}
use Rattle.spl_meaning.specs.spl_tree.StatementTrees as stat
use Rattle.spl_meaning.specs.Names as n
use Rattle.spl_meaning.specs.Names.{Names, Sort, Formal}
use Rattle.spl_meaning.specs.Kinds.{is_double, reference_kind}
use Rattle.spl_meaning.specs.Pending.{by_value}
use Rattle.spl_meaning.specs.Faults.{Fault, fault, unless, IsAmong}
use Rattle.spl_meaning.specs.ExpressionRules.{place_in, constant_place, rule_kind, is_equate, is_open_sort, is_open, value_fits, passes, constant_name}
use Rattle.spl_meaning.specs.DeclarationRules.{is_wide, fits_double, is_double_kind, statement_place}
use Rattle.spl_rules.specs.Parts as part
use Rattle.spl_rules.specs.Parts.{Part}
use Rattle.spl_rules.specs.Breaking as b
use Rattle.spl_rules.specs.Breaking.{BreaksHere}
use Rattle.spl_rules.specs.Roles as allowed
use Rattle.spl_rules.proofs.Here.{here, in_left, in_right, in_both, fails}

-- the rule of a fault is broken at its place
abbrev Broken : Part → Fault → Type 0
Broken p f = BreaksHere f.rule p f.at

-- ---- tests

-- a test that fails
failed : (p : Part) (f : Fault) (t : Bool) (r : ℕ) (at : At) → (t ≡ false → BreaksHere r p at) → IsAmong f (unless t r at) → Broken p f
failed p f true r at h m = absurd m
failed p f false r at h (inl e) = subst (λ g. Broken p g) (sym e) (h refl)
failed p f false r at h (inr m) = absurd m

-- a fault at any rate
always : (p : Part) (f : Fault) (r : ℕ) (at : At) → BreaksHere r p at → IsAmong f (fault r at ∷ []) → Broken p f
always p f r at h (inl e) = subst (λ g. Broken p g) (sym e) h
always p f r at h (inr m) = absurd m

not_false : (t : Bool) → not t ≡ false → t ≡ true
not_false true e = refl
not_false false e = cc

false_not : (t : Bool) → t ≡ true → not t ≡ false
false_not true e = refl
false_not false e = cc

neither : (s t : Bool) → (s || t) ≡ false → (s ≡ false) × (t ≡ false)
neither true t e = cc
neither false t e = (refl, e)

both_false : (s t : Bool) → s ≡ false → t ≡ false → (s || t) ≡ false
both_false true t d e = cc
both_false false t d e = e

-- what does not fit a DOUBLE is a constant of one word
narrow_is : (names : Names) (c : Constant) → fits_double names c ≡ not (allowed.is_narrow names c)
narrow_is names (tree.Constant.wide minus v) = refl
narrow_is names (tree.Constant.name x at) = refl
narrow_is names (tree.Constant.number minus v) = refl
narrow_is names (tree.Constant.text bytes) = refl
narrow_is names (tree.Constant.truth b) = refl

-- ---- from faults to what breaks

constant_broken : (names : Names) (around at : At) (x : List ℕ) (f : Fault) (s : Option Sort) → s ≡ names x → IsAmong f (constant_name s at)
    → Broken (part.constant names around (tree.Constant.name x at)) f
constant_broken names around at x f None e m =
    always (part.constant names around (tree.Constant.name x at)) f 1 at (b.undeclared_constant (ap allowed.is_declared (sym e))) m
constant_broken names around at x f (Some (n.equate v)) e m = absurd m
constant_broken names around at x f (Some n.unknown) e m = absurd m
constant_broken names around at x f (Some s) e m =
    always (part.constant names around (tree.Constant.name x at)) f 3 at
    (b.wrong_constant (ap (λ (t : Option Sort). is_equate t || is_open_sort t) (sym e))) m

pub here_broken : (p : Part) (f : Fault) → IsAmong f (here p) → Broken p f
here_broken (part.name role sc x given at) f m =
    let p = part.name role sc x given at in
    in_both f _ _
    (in_both f _ _
    (in_both f _ _
    (in_both f _ _
    (in_both f _ _ (failed p f _ 1 at b.undeclared) (failed p f _ 3 at b.wrong_sort))
    (failed p f _ 23 at b.no_counter))
    (failed p f _ 12 at b.no_result))
    (failed p f _ 3 at b.wrong_index))
    (failed p f _ 27 at b.split_global) m
here_broken (part.call sc x q given true at) f m =
    let p = part.call sc x q given true at in
    in_both f _ _ (in_both f _ _ (failed p f _ 8 at b.wrong_number) (failed p f _ 11 at (λ h. b.no_value (neither _ _ h).0)))
    (failed p f _ 27 at (λ h. b.split_call (not_false _ (neither _ _ h).0) (neither _ _ h).1)) m
here_broken (part.call sc x q given false at) f m =
    let p = part.call sc x q given false at in
    in_both f _ _ (in_both f _ _ (failed p f _ 8 at b.wrong_number)
    (failed p f _ 11 at (λ h. let no : true ≡ false = (neither _ _ h).1 in cc)))
    (failed p f _ 27 at (λ h. b.split_call (not_false _ (neither _ _ h).0) (neither _ _ h).1)) m
here_broken (part.argument names None e at) f m = absurd m
here_broken (part.argument names (Some g) e at) f m = by (by_value g) refl m
  where
    by : (t : Bool) → by_value g ≡ t
        → IsAmong f (if t then unless (value_fits g.kind (rule_kind names e)) 9 (place_in at e)
        else unless (is_open names e || passes g.kind (reference_kind names e)) 10 (place_in at e))
        → Broken (part.argument names (Some g) e at) f
    by true t m = failed (part.argument names (Some g) e at) f _ 9 (place_in at e) (λ h. b.wrong_value t h) m
    by false t m = failed (part.argument names (Some g) e at) f _ 10 (place_in at e) (λ h. b.wrong_reference t h) m
here_broken (part.constant names around (tree.Constant.name x at)) f m = constant_broken names around at x f (names x) refl m
here_broken (part.constant names at (tree.Constant.text bytes)) f m =
    failed (part.constant names at (tree.Constant.text bytes)) f _ 14 at b.no_constant m
here_broken (part.constant names at (tree.Constant.number minus v)) f m = absurd m
here_broken (part.constant names at (tree.Constant.wide minus v)) f m = absurd m
here_broken (part.constant names at (tree.Constant.truth t)) f m = absurd m
here_broken (part.text bytes at) f m = failed (part.text bytes at) f _ 14 at b.no_word m
here_broken (part.bits names at e) f m = failed (part.bits names at e) f _ 7 (place_in at e) b.no_bits m
here_broken (part.word names at (tree.Tree.wide v)) f m = always (part.word names at (tree.Tree.wide v)) f 14 at b.wide_word m
here_broken (part.word names at e) f m = failed (part.word names at e) f _ 23 (place_in at e) (λ h. b.double_word refl (not_false _ h)) m
here_broken (part.operation names op l r at) f m =
    let p = part.operation names op l r at in in_both f _ _ (failed p f _ 4 at b.mixed) (failed p f _ 5 at b.no_operation) m
here_broken (part.shifted names e at) f m = failed (part.shifted names e at) f _ 5 at (λ h. b.double_shifted (not_false _ h)) m
here_broken (part.shift_count names c at) f m = failed (part.shift_count names c at) f _ 13 (constant_place at c) b.wrong_count m
here_broken (part.field names start size at) f m = failed (part.field names start size at) f _ 13 at b.wrong_field m
here_broken (part.address sc x at) f m =
    failed (part.address sc x at) f _ 27 at (λ h. b.split_address (not_false _ (neither _ _ h).0) (neither _ _ h).1) m
here_broken (part.far sc (tree.Tree.named x es at)) f m =
    failed (part.far sc (tree.Tree.named x es at)) f _ 27 at
    (λ h. let o = neither _ _ h in let i = neither _ _ o.0 in b.split_far (not_false _ i.0) (both_false _ _ i.1 o.1)) m
here_broken (part.far sc r) f m = absurd m
here_broken (part.compared names l r at) f m = failed (part.compared names l r at) f _ 24 at b.no_bytes_compared m
here_broken (part.assigned None e at) f m = absurd m
here_broken (part.assigned (Some k) e at) f m = failed (part.assigned (Some k) e at) f _ 6 at b.no_fit m
here_broken (part.replaced names r at) f m = failed (part.replaced names r at) f _ 5 at b.bits_of_no_word m
here_broken (part.effect names (stat.Effect.move to (stat.Source.counted from size)) at) f m =
    failed (part.effect names (stat.Effect.move to (stat.Source.counted from size)) at) f _ 24 at b.unlike_moved m
here_broken (part.effect names (stat.Effect.move to (stat.Source.text bytes)) at) f m =
    failed (part.effect names (stat.Effect.move to (stat.Source.text bytes)) at) f _ 24 at b.text_to_doubles m
here_broken (part.effect names (stat.Effect.move to (stat.Source.class_of from c)) at) f m =
    failed (part.effect names (stat.Effect.move to (stat.Source.class_of from c)) at) f _ 24 at b.letters_of_no_bytes m
here_broken (part.effect names (stat.Effect.scan from until word) at) f m =
    failed (part.effect names (stat.Effect.scan from until word) at) f _ 24 at b.no_bytes_scanned m
here_broken (part.answered (stat.Target.plain r) at) f m = absurd m
here_broken (part.answered (stat.Target.field r start size) at) f m =
    always (part.answered (stat.Target.field r start size) at) f 3 at b.answer_to_a_field m
here_broken (part.answered (stat.Target.address x a) at) f m = always (part.answered (stat.Target.address x a) at) f 3 at b.answer_to_an_address m
here_broken (part.answer_kind s at) f m =
    failed (part.answer_kind s at) f _ 6 at (λ h. b.double_answer (neither _ _ h).0 (neither _ _ h).1) m
here_broken (part.code_test true at) f m = absurd m
here_broken (part.code_test false at) f m = always (part.code_test false at) f 22 at b.late_test m
here_broken (part.jump labels x at) f m = failed (part.jump labels x at) f _ 21 at b.nowhere m
here_broken (part.leave sc at) f m = failed (part.leave sc at) f _ 25 at (λ h. b.main_return (not_false _ h)) m
here_broken (part.label before x) f m = failed (part.label before x) f _ 20 x.at (λ h. b.label_twice (not_false _ h)) m
here_broken (part.declared table x at) f m = failed (part.declared table x at) f _ 2 at (λ h. b.declared_twice (not_false _ h)) m
here_broken (part.bounds names low high at) f m = failed (part.bounds names low high at) f _ 15 at b.wrong_bounds m
here_broken (part.base outer table own k x at) f m =
    let p = part.base outer table own k x at in
    in_both f _ _ (in_both f _ _ (failed p f _ 1 at b.undeclared_base)
    (failed p f _ 16 at (λ h. b.no_base (not_false _ (neither _ _ h).0) (neither _ _ h).1)))
    (failed p f _ 16 at (λ h. b.double_view (not_false _ h))) m
here_broken (part.elements a at) f m = failed (part.elements a at) f _ 27 at (λ h. b.split_elements (not_false _ h)) m
here_broken (part.initial names kind.Double at c) f m = failed (part.initial names kind.Double at c) f _ 15 (constant_place at c) (λ h. b.narrow_initial refl (not_false _ (sym (narrow_is names c) ∙ h))) m
here_broken (part.initial names k at c) f m = failed (part.initial names k at c) f _ 14 at (λ h. b.wide_initial refl (not_false _ h)) m
here_broken (part.item a table true k i) f m =
    let p = part.item a table true k i in
    in_both f _ _ (in_both f _ _ (in_both f _ _ (in_both f _ _ (failed p f _ 15 i.at b.too_many_values) (failed p f _ 17 i.at b.no_values))
    (failed p f _ 17 i.at b.global_own)) (failed p f _ 27 i.at (λ h. b.split_own (not_false _ h))))
    (failed p f _ 28 i.at (λ h. b.silent_data (not_false _ h))) m
here_broken (part.item a table false k i) f m =
    let p = part.item a table false k i in
    in_both f _ _ (in_both f _ _ (in_both f _ _ (in_both f _ _ (failed p f _ 15 i.at b.too_many_values) (failed p f _ 17 i.at b.no_values))
    (λ m. absurd m)) (λ m. absurd m))
    (failed p f _ 28 i.at (λ h. b.silent_data (not_false _ h))) m
here_broken (part.sum names terms at) f m = failed (part.sum names terms at) f _ 14 at b.wrong_sum m
here_broken (part.intrinsic x) f m = failed (part.intrinsic x) f _ 26 x.at b.no_intrinsic m
here_broken (part.parameter before x) f m = failed (part.parameter before x) f _ 2 x.at (λ h. b.parameter_twice (not_false _ h)) m
here_broken (part.listed names x) f m = failed (part.listed names x) f _ 18 x.at b.no_parameter m
here_broken (part.value_listed specs x) f m = failed (part.value_listed specs x) f _ 18 x.at (λ h. b.array_by_value (not_false _ h)) m
here_broken (part.kind_listed specs x) f m = failed (part.kind_listed specs x) f _ 18 x.at b.no_kind m
here_broken (part.listed_again before x) f m = failed (part.listed_again before x) f _ 18 x.at (λ h. b.two_kinds (not_false _ h)) m
here_broken (part.formal true g) f m =
    failed (part.formal true g) f _ 27 g.at (λ h. b.split_reference (neither _ _ h).0 (not_false _ (neither _ _ h).1)) m
here_broken (part.formal false g) f m = absurd m
here_broken (part.forward h ds) f m = failed (part.forward h ds) f _ 19 h.at b.no_body m
here_broken (part.external h r) f m =
    failed (part.external h r) f _ 19 h.at (λ t. b.unlike_external (not_false _ (neither _ _ t).0) (neither _ _ t).1) m
here_broken (part.body table None h) f m = failed (part.body table None h) f _ 2 h.at (λ t. b.body_declared_twice (not_false _ t)) m
here_broken (part.body table (Some q) h) f m = failed (part.body table (Some q) h) f _ 19 h.at b.unlike_forward m
here_broken (part.subroutine a at) f m = failed (part.subroutine a at) f _ 28 at (λ h. b.silent_subroutine (not_false _ h)) m
here_broken (part.silent unit s) f m = failed (part.silent unit s) f _ 28 (statement_place unit s) b.silent_statement m

-- ---- from what breaks to faults

constant_undeclared : (names : Names) (around at : At) (x : List ℕ) (s : Option Sort) → s ≡ names x → allowed.is_declared (names x) ≡ false
    → IsAmong (fault 1 at) (constant_name s at)
constant_undeclared names around at x None d e = inl refl
constant_undeclared names around at x (Some s) d e = let no : allowed.is_declared (Some s) ≡ false = ap allowed.is_declared d ∙ e in cc

constant_wrong : (names : Names) (around at : At) (x : List ℕ) (s : Option Sort) → s ≡ names x
    → (is_equate (names x) || is_open_sort (names x)) ≡ false → IsAmong (fault 3 at) (constant_name s at)
constant_wrong names around at x s d e = by s (ap (λ (t : Option Sort). is_equate t || is_open_sort t) d ∙ e)
  where
    by : (s : Option Sort) → (is_equate s || is_open_sort s) ≡ false → IsAmong (fault 3 at) (constant_name s at)
    by None e = cc
    by (Some (n.equate v)) e = cc
    by (Some n.unknown) e = cc
    by (Some s) e = inl refl

argument_value : (names : Names) (g : Formal) (x : Tree) (at : At) → by_value g ≡ true → value_fits g.kind (rule_kind names x) ≡ false
    → IsAmong (fault 9 (place_in at x)) (here (part.argument names (Some g) x at))
argument_value names g x at t e =
    subst (λ u. IsAmong (fault 9 (place_in at x)) (if u then unless (value_fits g.kind (rule_kind names x)) 9 (place_in at x)
    else unless (is_open names x || passes g.kind (reference_kind names x)) 10 (place_in at x))) (sym t) (fails _ 9 (place_in at x) e)

argument_reference : (names : Names) (g : Formal) (x : Tree) (at : At) → by_value g ≡ false
    → (is_open names x || passes g.kind (reference_kind names x)) ≡ false
    → IsAmong (fault 10 (place_in at x)) (here (part.argument names (Some g) x at))
argument_reference names g x at t e =
    subst (λ u. IsAmong (fault 10 (place_in at x)) (if u then unless (value_fits g.kind (rule_kind names x)) 9 (place_in at x)
    else unless (is_open names x || passes g.kind (reference_kind names x)) 10 (place_in at x))) (sym t) (fails _ 10 (place_in at x) e)

word_double : (names : Names) (at : At) (x : Tree) → allowed.is_wide_number x ≡ false → is_double (rule_kind names x) ≡ true
    → IsAmong (fault 23 (place_in at x)) (here (part.word names at x))
word_double names at (tree.Tree.wide v) d e = cc
word_double names at x d e = fails _ 23 (place_in at x) (false_not _ e)

wide_value : (names : Names) (k : Kind) (at : At) (c : Constant) → is_double_kind k ≡ false → is_wide c ≡ true
    → IsAmong (fault 14 at) (here (part.initial names k at c))
wide_value names kind.Double at c d e = cc
wide_value names k at c d e = fails _ 14 at (false_not _ e)

narrow_value : (names : Names) (k : Kind) (at : At) (c : Constant) → is_double_kind k ≡ true → allowed.is_narrow names c ≡ true
    → IsAmong (fault 15 (constant_place at c)) (here (part.initial names k at c))
narrow_value names kind.Double at c d e = fails _ 15 (constant_place at c) (narrow_is names c ∙ false_not _ e)
narrow_value names k at c d e = cc

-- one of some faults; as a record, so that the lists are found
record Member (f : Fault) (fs : List Fault) : Type 0 where
  pub is : IsAmong f fs

left : {f : Fault} {a : List Fault} (b : List Fault) → Member f a → Member f (a ++ b)
left {f = f} {a = a} b m = record { is = in_left f a b m.is }

right : {f : Fault} (a : List Fault) {b : List Fault} → Member f b → Member f (a ++ b)
right {f = f} a {b = b} m = record { is = in_right f a b m.is }

fault_of : (t : Bool) (r : ℕ) (at : At) → t ≡ false → Member (fault r at) (unless t r at)
fault_of t r at e = record { is = fails t r at e }

member : (r : ℕ) (p : Part) (at : At) → BreaksHere r p at → Member (fault r at) (here p)
member r p at (b.undeclared e) = left _ (left _ (left _ (left _ (left _ (fault_of _ 1 at e)))))
member r p at (b.undeclared_constant {names = names} {around = around} {x = x} e) = record { is = constant_undeclared names around at x (names x) refl e }
member r p at (b.undeclared_base e) = left _ (left _ (fault_of _ 1 at e))
member r p at (b.declared_twice e) = fault_of _ 2 at (false_not _ e)
member r p at (b.body_declared_twice e) = fault_of _ 2 at (false_not _ e)
member r p at (b.parameter_twice e) = fault_of _ 2 at (false_not _ e)
member r p at (b.wrong_sort e) = left _ (left _ (left _ (left _ (right _ (fault_of _ 3 at e)))))
member r p at (b.wrong_index e) = left _ (right _ (fault_of _ 3 at e))
member r p at (b.wrong_constant {names = names} {around = around} {x = x} e) = record { is = constant_wrong names around at x (names x) refl e }
member r p at b.answer_to_a_field = record { is = inl refl }
member r p at b.answer_to_an_address = record { is = inl refl }
member r p at (b.mixed e) = left _ (fault_of _ 4 at e)
member r p at (b.no_operation e) = right _ (fault_of _ 5 at e)
member r p at (b.double_shifted e) = fault_of _ 5 at (false_not _ e)
member r p at (b.bits_of_no_word e) = fault_of _ 5 at e
member r p at (b.no_fit e) = fault_of _ 6 at e
member r p at (b.double_answer d e) = fault_of _ 6 at (both_false _ _ d e)
member r p at (b.no_bits e) = fault_of _ 7 at e
member r p at (b.wrong_number e) = left _ (left _ (fault_of _ 8 at e))
member r p at (b.wrong_value {names = names} {f = f} {e = x} d e) = record { is = argument_value names f x _ d e }
member r p at (b.wrong_reference {names = names} {f = f} {e = x} d e) = record { is = argument_reference names f x _ d e }
member r p at (b.no_value e) = left _ (right _ (fault_of _ 11 at (both_false _ _ e refl)))
member r p at (b.no_result e) = left _ (left _ (right _ (fault_of _ 12 at e)))
member r p at (b.wrong_count e) = fault_of _ 13 at e
member r p at (b.wrong_field e) = fault_of _ 13 at e
member r p at (b.no_word e) = fault_of _ 14 at e
member r p at (b.no_constant e) = fault_of _ 14 at e
member r p at b.wide_word = record { is = inl refl }
member r p at (b.wide_initial {names = names} {k = k} {c = c} d e) = record { is = wide_value names k at c d e }
member r p at (b.wrong_sum e) = fault_of _ 14 at e
member r p at (b.wrong_bounds e) = fault_of _ 15 at e
member r p at (b.narrow_initial {names = names} {k = k} {c = c} d e) = record { is = narrow_value names k _ c d e }
member r p at (b.too_many_values e) = left _ (left _ (left _ (left _ (fault_of _ 15 at e))))
member r p at (b.no_base d e) = left _ (right _ (fault_of _ 16 at (both_false _ _ (false_not _ d) e)))
member r p at (b.double_view e) = right _ (fault_of _ 16 at (false_not _ e))
member r p at (b.no_values e) = left _ (left _ (left _ (right _ (fault_of _ 17 at e))))
member r p at (b.global_own e) = left _ (left _ (right _ (fault_of _ 17 at e)))
member r p at (b.no_parameter e) = fault_of _ 18 at e
member r p at (b.array_by_value e) = fault_of _ 18 at (false_not _ e)
member r p at (b.no_kind e) = fault_of _ 18 at e
member r p at (b.two_kinds e) = fault_of _ 18 at (false_not _ e)
member r p at (b.no_body e) = fault_of _ 19 at e
member r p at (b.unlike_forward e) = fault_of _ 19 at e
member r p at (b.unlike_external d e) = fault_of _ 19 at (both_false _ _ (false_not _ d) e)
member r p at (b.label_twice e) = fault_of _ 20 at (false_not _ e)
member r p at (b.nowhere e) = fault_of _ 21 at e
member r p at b.late_test = record { is = inl refl }
member r p at (b.no_counter e) = left _ (left _ (left _ (right _ (fault_of _ 23 at e))))
member r p at (b.double_word {names = names} {e = x} d e) = record { is = word_double names _ x d e }
member r p at (b.unlike_moved e) = fault_of _ 24 at e
member r p at (b.text_to_doubles e) = fault_of _ 24 at e
member r p at (b.letters_of_no_bytes e) = fault_of _ 24 at e
member r p at (b.no_bytes_scanned e) = fault_of _ 24 at e
member r p at (b.no_bytes_compared e) = fault_of _ 24 at e
member r p at (b.main_return e) = fault_of _ 25 at (false_not _ e)
member r p at (b.no_intrinsic e) = fault_of _ 26 at e
member r p at (b.split_global e) = right _ (fault_of _ 27 at e)
member r p at (b.split_call d e) = right _ (fault_of _ 27 at (both_false _ _ (false_not _ d) e))
member r p at (b.split_address d e) = fault_of _ 27 at (both_false _ _ (false_not _ d) e)
member r p at (b.split_far d e) = fault_of _ 27 at (both_false _ _ (both_false _ _ (false_not _ d) (neither _ _ e).0) (neither _ _ e).1)
member r p at (b.split_elements e) = fault_of _ 27 at (false_not _ e)
member r p at (b.split_own e) = left _ (right _ (fault_of _ 27 at (false_not _ e)))
member r p at (b.split_reference d e) = fault_of _ 27 at (both_false _ _ d (false_not _ e))
member r p at (b.silent_data e) = right _ (fault_of _ 28 at (false_not _ e))
member r p at (b.silent_subroutine e) = fault_of _ 28 at (false_not _ e)
member r p at (b.silent_statement e) = fault_of _ 28 at e

pub broken_here : (r : ℕ) (p : Part) (at : At) → BreaksHere r p at → IsAmong (fault r at) (here p)
broken_here r p at e = (member r p at e).is
