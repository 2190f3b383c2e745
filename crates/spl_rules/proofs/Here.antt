-- The faults of a part by itself, and those of some parts.
use Rattle.std.proofs.Common.{ℕ, ◌≡◌, Bool, true, false, List, [], ◌∷◌, ◌++◌, Option, inl, inr, refl, sym, ap, ◌∙◌}
use Rattle.std.specs.Prelude.{◌&&◌, ◌||◌, not, is_some, length, pos, neg_ℤ, if◌then◌else◌}
use Rattle.std.proofs.lemmas.List.{append-nil, append_assoc}
use Rattle.spl_meaning.specs.spl_tree.declared.names_and_places.At.{At}
use Rattle.spl_meaning.specs.spl_tree.declared.expressions.Kind.{Kind}
use Rattle.spl_meaning.specs.spl_tree.declared.expressions.Kind.TheVariants as kind
use Rattle.spl_meaning.specs.spl_tree.Trees.{Constant}
use Rattle.spl_meaning.specs.spl_tree.StatementTrees as stat
use Rattle.spl_meaning.specs.spl_tree.StatementTrees.{Target, Effect, Source}
use Rattle.spl_meaning.specs.Names.{Names, Sort, within, same_name, profile_of, lists, spec_of, is_array_in, intrinsic_named, text_value, constant_value, sum_value}
use Rattle.spl_meaning.specs.Kinds.{is_double}
use Rattle.spl_meaning.specs.Pending.{by_value}
use Rattle.spl_meaning.specs.Faults.{Fault, fault, unless, IsAmong}
use Rattle.spl_meaning.specs.ExpressionRules.{Scope, constant_place, mixes, is_operation, in_range, is_field, is_pointer, rule_kind, rule_reference, may_be_byte, has_elements, constant_faults, call_faults, argument_faults, bits_faults, single_faults, far_faults}
use Rattle.spl_meaning.specs.StatementRules.{target_kind, target_kind_by, is_single, moves, may_be_moved_to, has_name, is_listed, fit_faults}
use Rattle.spl_meaning.specs.DeclarationRules.{bounds_fit, is_wide, fits_double, values_fit, may_begin, gets_body, same_profile, statement_place, is_empty_statement, twice, base_faults, procedure_by}
use Rattle.spl_rules.specs.Parts as part
use Rattle.spl_rules.specs.Parts.{Role, Part}
use Rattle.spl_rules.specs.Roles as allowed

-- the tests of a name in a role
abbrev pub name_tests : Role → Scope → List ℕ → Option Sort → ℕ → At → List Fault
name_tests role sc x s given at =
    unless (allowed.is_declared s) 1 at ++ unless (allowed.is_of_sort role s) 3 at ++ unless (allowed.counts role s) 23 at
    ++ unless (allowed.is_own_result role sc x s) 12 at ++ unless (allowed.has_fit_index role s given) 3 at ++ unless (allowed.is_near role sc x s) 27 at

-- the test of a MOVE or a SCAN
abbrev pub effect_test : Names → Effect → At → List Fault
effect_test names (stat.Effect.move to (stat.Source.counted from size)) at = unless (moves (rule_reference names to) (rule_reference names from)) 24 at
effect_test names (stat.Effect.move to (stat.Source.text bytes)) at = unless (may_be_moved_to (rule_reference names to)) 24 at
effect_test names (stat.Effect.move to (stat.Source.class_of from c)) at =
    unless (may_be_byte (rule_reference names to) && may_be_byte (rule_reference names from)) 24 at
effect_test names (stat.Effect.scan from until word) at = unless (may_be_byte (rule_reference names from)) 24 at

abbrev pub answered_test : Target → At → List Fault
answered_test (stat.Target.plain r) at = []
answered_test (stat.Target.field r start size) at = fault 3 at ∷ []
answered_test (stat.Target.address x a) at = fault 3 at ∷ []

abbrev pub initial_test : Names → Kind → At → Constant → List Fault
initial_test names kind.Double at c = unless (fits_double names c) 15 (constant_place at c)
initial_test names _ at c = unless (not (is_wide c)) 14 at

-- the faults of a part
abbrev pub here : Part → List Fault
here (part.name role sc x given at) = name_tests role sc x (sc.names x) given at
here (part.call sc x p given used at) = call_faults sc (sc.names x) p given used at
here (part.argument names f e at) = argument_faults names f e at
here (part.constant names at c) = constant_faults names at c
here (part.text bytes at) = unless (is_some (text_value bytes)) 14 at
here (part.bits names at e) = bits_faults names at e
here (part.word names at e) = single_faults names at e
here (part.operation names op a b at) =
    unless (mixes (rule_kind names a) (rule_kind names b)) 4 at ++ unless (is_operation op (rule_kind names a) (rule_kind names b)) 5 at
here (part.shifted names e at) = unless (not (is_double (rule_kind names e))) 5 at
here (part.shift_count names c at) = unless (in_range (pos 0) (pos 15) (constant_value names c)) 13 (constant_place at c)
here (part.field names start size at) = unless (is_field (constant_value names start) (constant_value names size)) 13 at
here (part.address sc x at) = unless (not sc.split || is_pointer (sc.names x)) 27 at
here (part.far sc r) = far_faults sc r
here (part.compared names a b at) = unless (may_be_byte (rule_reference names a) && may_be_byte (rule_reference names b)) 24 at
here (part.assigned k e at) = fit_faults k e at
here (part.replaced names r at) = unless (is_single (target_kind names r)) 5 at
here (part.effect names e at) = effect_test names e at
here (part.answered to at) = answered_test to at
here (part.answer_kind s at) = unless (has_elements s || may_be_moved_to (target_kind_by s)) 6 at
here (part.code_test after at) = unless after 22 at
here (part.jump labels x at) = unless (has_name labels x) 21 at
here (part.leave sc at) = unless (not sc.is_main) 25 at
here (part.label before x) = unless (not (is_listed before x.letters)) 20 x.at
here (part.declared table x at) = twice table x at
here (part.bounds names low high at) = unless (bounds_fit (constant_value names low) (constant_value names high)) 15 at
here (part.base outer table own k x at) = base_faults outer table own k x at
here (part.elements a at) = unless (not a.split) 27 at
here (part.initial names k at c) = initial_test names k at c
here (part.item a table own k i) =
    unless (values_fit (within table a.names) i.shape (length i.first)) 15 i.at
    ++ unless (may_begin a own i.shape (length i.first)) 17 i.at
    ++ unless (not own || a.in_procedure) 17 i.at ++ unless (not own || not a.split) 27 i.at ++ unless (not a.subprogram) 28 i.at
here (part.sum names terms at) = unless (in_range (neg_ℤ (pos 32768)) (pos 65535) (sum_value names terms)) 14 at
here (part.intrinsic x) = unless (is_some (intrinsic_named x.letters)) 26 x.at
here (part.parameter before x) = unless (not (is_listed before x.letters)) 2 x.at
here (part.listed names x) = unless (lists names x.letters) 18 x.at
here (part.value_listed specs x) = unless (not (is_array_in (spec_of specs x.letters))) 18 x.at
here (part.kind_listed specs x) = unless (is_some (spec_of specs x.letters)) 18 x.at
here (part.listed_again before x) = unless (not (is_listed before x.letters)) 18 x.at
here (part.formal split f) = unless (not split || by_value f || not (is_some f.kind)) 27 f.at
here (part.forward h ds) = unless (gets_body ds h.name) 19 h.at
here (part.external h r) = unless (not (same_name h.name r.heading.name) || same_profile (profile_of h) (profile_of r.heading)) 19 h.at
here (part.body table p h) = procedure_by table p h
here (part.subroutine a at) = unless (not a.subprogram) 28 at
here (part.silent unit s) = unless (is_empty_statement s) 28 (statement_place unit s)

-- the faults of some parts, in order
abbrev pub gather : List Part → List Fault
gather [] = []
gather (p ∷ ps) = here p ++ gather ps

-- ---- lists of faults

pub in_left : (f : Fault) (a b : List Fault) → IsAmong f a → IsAmong f (a ++ b)
in_left f [] b m = absurd m
in_left f (g ∷ a) b (inl e) = inl e
in_left f (g ∷ a) b (inr m) = inr (in_left f a b m)

pub in_right : (f : Fault) (a b : List Fault) → IsAmong f b → IsAmong f (a ++ b)
in_right f [] b m = m
in_right f (g ∷ a) b m = inr (in_right f a b m)

pub in_both : {P : Type 0} (f : Fault) (a b : List Fault) → (IsAmong f a → P) → (IsAmong f b → P) → IsAmong f (a ++ b) → P
in_both f [] b h k m = k m
in_both f (g ∷ a) b h k (inl e) = h (inl e)
in_both f (g ∷ a) b h k (inr m) = in_both f a b (λ i. h (inr i)) k m

pub fails : (t : Bool) (r : ℕ) (at : At) → t ≡ false → IsAmong (fault r at) (unless t r at)
fails true r at e = cc
fails false r at e = inl refl

-- ---- lists of parts

pub gather_append : (ps qs : List Part) → gather (ps ++ qs) ≡ gather ps ++ gather qs
gather_append [] qs = refl
gather_append (p ∷ ps) qs = ap (λ l. here p ++ l) (gather_append ps qs) ∙ sym (append_assoc (here p) (gather ps) (gather qs))

pub gather_if : (t : Bool) (ps qs : List Part) → gather (if t then ps else qs) ≡ (if t then gather ps else gather qs)
gather_if true ps qs = refl
gather_if false ps qs = refl

pub one : (p : Part) → here p ≡ gather (p ∷ [])
one p = sym (append-nil (here p))

-- a part in front of others
pub next : (p : Part) (ps : List Part) {f fs : List Fault} → f ≡ here p → fs ≡ gather ps → f ++ fs ≡ gather (p ∷ ps)
next p ps {fs = fs} d e = ap (λ l. l ++ fs) d ∙ ap (λ l. here p ++ l) e

-- parts in front of others
pub two : (ps qs : List Part) {fs gs : List Fault} → fs ≡ gather ps → gs ≡ gather qs → fs ++ gs ≡ gather (ps ++ qs)
two ps qs {gs = gs} d e = ap (λ l. l ++ gs) d ∙ ap (λ l. gather ps ++ l) e ∙ sym (gather_append ps qs)

-- how parts are gathered, one behind the other
pub ruleset shapes = (append_assoc, append-nil, gather_append, gather_if)
