-- Texts come to one thing.
-- 1. tokens         (cut_same to uncut_same)
-- 2. spelling       (source_same to unspelled_same)
-- 3. programs       (programs_unique, faults_unique, program_has_none)
use Rattle.std.proofs.Common.{ℕ, ◌≡◌, List, [], ◌∷◌, Option, Some, None, Result, Ok, Err, refl, sym, ap, subst, ◌∙◌}
use Rattle.spl_tree.specs.declared.names_and_places.At.{At}
use Rattle.spl_tree.specs.declared.fault_kinds.FaultKind.{FaultKind}
use Rattle.spl_tree.specs.DeclarationTrees.{UnitTree}
use Rattle.spl_cuts.specs.Signs.{Listed}
use Rattle.spl_cuts.specs.Cutting.{CutsWithin}
use Rattle.spl_cuts.specs.Reading.{read_text}
use Rattle.spl_cuts.proofs.TextReads.{cuts_read, fault_is_read}
use Rattle.spl_cuts.proofs.TextCuts.{faults_unique}
use Rattle.spl_sound.specs.spl_reading.Readers.{Outcome, Got, Bad, Deep}
use Rattle.spl_sound.specs.spl_grammar.Answers.{end_of}
use Rattle.spl_sound.proofs.spl_grammar_proofs.VerdictLaws.{one_verdict}
use Rattle.spl_tree.specs.Expressions.{place}
use Rattle.spl_sound.specs.spl_meaning.Tables.{Source}
use Rattle.spl_sound.specs.spl_meaning.Faults.{Fault, fault}
use Rattle.spl_sound.specs.spl_meaning.Limits.{Full, first_full}
use Rattle.spl_sound.specs.spl_meaning.Sound.{IsSound, first_broken}
use Rattle.spl_sound.proofs.spl_meaning_proofs.FirstFaults.{sound_is}
use Rattle.spl_program.specs.Kinds.{kind_of}
use Rattle.spl_program.specs.declared.faults.ProgramFault.{ProgramFault}
use Rattle.spl_program.specs.declared.faults.ProgramFault.TheVariants as why
use Rattle.spl_program.specs.Texts.{AreCut, FirstUncut, IsUncut, here, behind, none, more, IsSpelled, AreUnits, IsUnspelled, refused, too_deep, FirstUnspelled}
use Rattle.spl_program.specs.Texts as t
use Rattle.spl_program.specs.Programs.{Spell, IsProgram, IsFault, tokens, spelling, rules, limits}

-- ---- 1. tokens

ok_is : {A E : Type 0} (x y : A) (r : Result A E) → r ≡ Ok x → r ≡ Ok y → x ≡ y
ok_is {A} {E} x y r d e = ap (from x) (sym d ∙ e)
  where
    from : A → Result A E → A
    from z (Ok w) = w
    from z (Err f) = z

cut_same : (n : ℕ) (text : List ℕ) (x y : Listed) → CutsWithin n 262144 text x → CutsWithin n 262144 text y → x ≡ y
cut_same n text x y v w = ok_is x y (read_text n 262144 text) (cuts_read n 262144 text x v) (cuts_read n 262144 text y w)

cut_no_fault : (n : ℕ) (text : List ℕ) (x : Listed) (k : FaultKind) (at : At) → CutsWithin n 262144 text x → IsUncut n text k at → ⊥
cut_no_fault n text x k at v u = let e = sym (cuts_read n 262144 text x v) ∙ fault_is_read n 262144 text u.lexical at u.first in cc

some_is : {A : Type 0} {x y : A} → Some x ≡ Some y → x ≡ y
some_is {A} {x} {y} e = ap (from x) e
  where
    from : A → Option A → A
    from z None = z
    from z (Some w) = w

fault_same : (n : ℕ) (text : List ℕ) (k l : FaultKind) (at there : At) → IsUncut n text k at → IsUncut n text l there → (k ≡ l) × (at ≡ there)
fault_same n text k l at there u v =
    let s = faults_unique n 262144 text u.lexical v.lexical at there u.first v.first in
    (some_is (sym u.named ∙ ap kind_of s.0 ∙ v.named), s.1)

lists_same : {n : ℕ} {texts : List (List ℕ)} {xs ys : List Listed} → AreCut n texts xs → AreCut n texts ys → xs ≡ ys
lists_same t.AreCut.none t.AreCut.none = refl
lists_same (t.AreCut.more {n = n} {text = text} {x = x} {xs = xs} v vs) (t.AreCut.more {x = y} w ws) =
    ap (λ z. z ∷ xs) (cut_same n text x y v w) ∙ ap (λ zs. y ∷ zs) (lists_same vs ws)

cut_not_uncut : {n : ℕ} {texts : List (List ℕ)} {xs : List Listed} {k : FaultKind} {at : At} → AreCut n texts xs → FirstUncut n texts k at → ⊥
cut_not_uncut t.AreCut.none u = elim u [ ]
cut_not_uncut (t.AreCut.more {n = n} {text = text} {x = x} v vs) (t.FirstUncut.here {k = k} {at = at} u) = cut_no_fault n text x k at v u
cut_not_uncut (t.AreCut.more v vs) (t.FirstUncut.behind y w u) = cut_not_uncut vs u

uncut_same : {n : ℕ} {texts : List (List ℕ)} {k l : FaultKind} {at there : At} → FirstUncut n texts k at → FirstUncut n texts l there → (k ≡ l) × (at ≡ there)
uncut_same (t.FirstUncut.here {n = n} {text = text} {k = k} {at = at} u) (t.FirstUncut.here {k = l} {at = there} v) = fault_same n text k l at there u v
uncut_same (t.FirstUncut.here {n = n} {text = text} {k = k} {at = at} u) (t.FirstUncut.behind y w v) = absurd (cut_no_fault n text y k at w u)
uncut_same (t.FirstUncut.behind {n = n} {text = text} x w u) (t.FirstUncut.here {k = l} {at = there} v) = absurd (cut_no_fault n text x l there w v)
uncut_same (t.FirstUncut.behind x w u) (t.FirstUncut.behind y z v) = uncut_same u v

-- ---- 2. spelling

got_is : {a b : UnitTree} → Got a [] ≡ Got b [] → a ≡ b
got_is {a} {b} e = ap (from a) e
  where
    from : UnitTree → Outcome UnitTree → UnitTree
    from z (Got w r) = w
    from z (Bad r) = z
    from z (Deep r) = z

source_same : (x : Listed) (u v : Source) → IsSpelled x u → IsSpelled x v → u ≡ v
source_same x u v a b =
    ap (λ s. record { subprogram = s; segments = u.segments; tree = u.tree }) (a.subprogram ∙ sym b.subprogram)
    ∙ ap (λ s. record { subprogram = v.subprogram; segments = s; tree = u.tree }) (a.segments ∙ sym b.segments)
    ∙ ap (λ s. record { subprogram = v.subprogram; segments = v.segments; tree = s }) (got_is (one_verdict a.spelled b.spelled))

units_same : {xs : List Listed} {us vs : List Source} → AreUnits xs us → AreUnits xs vs → us ≡ vs
units_same t.AreUnits.none t.AreUnits.none = refl
units_same (t.AreUnits.more {x = x} {u = u} {us = us} a ds) (t.AreUnits.more {u = v} b cs) =
    ap (λ z. z ∷ us) (source_same x u v a b) ∙ ap (λ zs. v ∷ zs) (units_same ds cs)

spelled_no_fault : {x : Listed} {u : Source} {k : FaultKind} {at : At} → IsSpelled x u → IsUnspelled x k at → ⊥
spelled_no_fault a (t.IsUnspelled.refused v) = let e = one_verdict a.spelled v in cc
spelled_no_fault a (t.IsUnspelled.too_deep v) = let e = one_verdict a.spelled v in cc

verdict_same : {x : Listed} {k l : FaultKind} {at there : At} → IsUnspelled x k at → IsUnspelled x l there → (k ≡ l) × (at ≡ there)
verdict_same (t.IsUnspelled.refused v) (t.IsUnspelled.refused w) = (refl, ap (λ o. place (end_of o)) (one_verdict v w))
verdict_same (t.IsUnspelled.refused v) (t.IsUnspelled.too_deep w) = let e = one_verdict v w in cc
verdict_same (t.IsUnspelled.too_deep v) (t.IsUnspelled.refused w) = let e = one_verdict v w in cc
verdict_same (t.IsUnspelled.too_deep v) (t.IsUnspelled.too_deep w) = (refl, ap (λ o. place (end_of o)) (one_verdict v w))

units_not_unspelled : {xs : List Listed} {us : List Source} {k : FaultKind} {at : At} → AreUnits xs us → FirstUnspelled xs k at → ⊥
units_not_unspelled t.AreUnits.none u = elim u [ ]
units_not_unspelled (t.AreUnits.more a ds) (t.FirstUnspelled.here u) = spelled_no_fault a u
units_not_unspelled (t.AreUnits.more a ds) (t.FirstUnspelled.behind v b u) = units_not_unspelled ds u

unspelled_same : {xs : List Listed} {k l : FaultKind} {at there : At} → FirstUnspelled xs k at → FirstUnspelled xs l there → (k ≡ l) × (at ≡ there)
unspelled_same (t.FirstUnspelled.here u) (t.FirstUnspelled.here v) = verdict_same u v
unspelled_same (t.FirstUnspelled.here u) (t.FirstUnspelled.behind w b v) = absurd (spelled_no_fault b u)
unspelled_same (t.FirstUnspelled.behind w b u) (t.FirstUnspelled.here v) = absurd (spelled_no_fault b v)
unspelled_same (t.FirstUnspelled.behind w b u) (t.FirstUnspelled.behind z c v) = unspelled_same u v

-- ---- 3. programs

spell_same : {texts : List (List ℕ)} {us vs : List Source} → Spell texts us → Spell texts vs → us ≡ vs
spell_same {texts} {us} {vs} a b = units_same (subst (λ xs. AreUnits xs us) (lists_same a.cut b.cut) a.units) b.units

-- texts make at most one program
pub programs_unique : (texts : List (List ℕ)) (us vs : List Source) → IsProgram texts us → IsProgram texts vs → us ≡ vs
programs_unique texts us vs a b = spell_same a.spell b.spell

text_same : {k l : FaultKind} {at there : At} → (k ≡ l) × (at ≡ there) → why.Text k at ≡ why.Text l there
text_same {k} {l} {at} {there} e = ap (λ x. why.Text x at) e.0 ∙ ap (λ x. why.Text l x) e.1

spell_no_fault : {texts : List (List ℕ)} {us : List Source} {k : FaultKind} {at : At} {lists : List Listed} → Spell texts us → AreCut 1 texts lists
    → FirstUnspelled lists k at → ⊥
spell_no_fault {texts} {us} {k} {at} {lists} a c u = units_not_unspelled (subst (λ xs. AreUnits xs us) (lists_same a.cut c) a.units) u

rule_same : {r s : ℕ} {at there : At} → Some (fault r at) ≡ Some (fault s there) → why.Rule r at ≡ why.Rule s there
rule_same e = ap (λ (f : Fault). why.Rule f.rule f.at) (some_is e)

limit_same : (f g : Full) → Some f ≡ Some g → why.Limit f.limit f.at ≡ why.Limit g.limit g.at
limit_same f g e = ap (λ (h : Full). why.Limit h.limit h.at) (some_is e)

abbrev passed : ℕ → At → ℕ → Full
passed limit at count = record { limit = limit; at = at; count = count }

-- units that break no rule have no first one
no_rule : (us vs : List Source) (f : Fault) → us ≡ vs → IsSound us → first_broken vs ≡ Some f → ⊥
no_rule us vs f same k e = let d = sym ((sound_is us).1 k) ∙ ap first_broken same ∙ e in cc

-- and have at most one first fault
pub faults_are_one : (texts : List (List ℕ)) (f g : ProgramFault) → IsFault texts f → IsFault texts g → f ≡ g
faults_are_one texts f g (tokens u) (tokens v) = text_same (uncut_same u v)
faults_are_one texts f g (tokens u) (spelling lists c v) = absurd (cut_not_uncut c u)
faults_are_one texts f g (tokens u) (rules us s e) = absurd (cut_not_uncut s.cut u)
faults_are_one texts f g (spelling lists c u) (tokens v) = absurd (cut_not_uncut c v)
faults_are_one texts f g (spelling {k = k} {at = at} lists c u) (spelling others d v) =
    text_same (unspelled_same (subst (λ xs. FirstUnspelled xs k at) (lists_same c d) u) v)
faults_are_one texts f g (spelling lists c u) (rules us s e) = absurd (spell_no_fault s c u)
faults_are_one texts f g (rules us s e) (tokens v) = absurd (cut_not_uncut s.cut v)
faults_are_one texts f g (rules us s e) (spelling lists c v) = absurd (spell_no_fault s c v)
faults_are_one texts f g (tokens u) (limits us s k e) = absurd (cut_not_uncut s.cut u)
faults_are_one texts f g (spelling lists c u) (limits us s k e) = absurd (spell_no_fault s c u)
faults_are_one texts f g (rules {rule = r} {at = at} us s e) (limits vs t k d) = absurd (no_rule vs us (fault r at) (spell_same t s) k e)
faults_are_one texts f g (limits us s k e) (tokens v) = absurd (cut_not_uncut s.cut v)
faults_are_one texts f g (limits us s k e) (spelling lists c v) = absurd (spell_no_fault s c v)
faults_are_one texts f g (limits us s k e) (rules {rule = r} {at = at} vs t d) = absurd (no_rule us vs (fault r at) (spell_same s t) k d)
faults_are_one texts f g (limits {limit = l} {count = c} {at = at} us s k e) (limits {limit = m} {count = b} {at = there} vs t j d) =
    limit_same (passed l at c) (passed m there b) (sym e ∙ ap first_full (spell_same s t) ∙ d)
faults_are_one texts f g (rules us s e) (rules vs r d) = rule_same (sym e ∙ ap first_broken (spell_same s r) ∙ d)

-- and not both
pub program_has_none : (texts : List (List ℕ)) (us : List Source) (f : ProgramFault) → IsProgram texts us → IsFault texts f → ⊥
program_has_none texts us f p (tokens u) = cut_not_uncut p.spell.cut u
program_has_none texts us f p (spelling lists c u) = spell_no_fault p.spell c u
program_has_none texts us f p (rules {rule = r} {at = at} vs s e) = no_rule us vs (fault r at) (spell_same p.spell s) p.sound e
program_has_none texts us f p (limits vs s k e) = let d = sym p.within ∙ ap first_full (spell_same p.spell s) ∙ e in cc
