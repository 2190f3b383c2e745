-- What is certain of texts: of some texts one line is told or none.
use Rattle.std.proofs.Common.{◌≡◌, ℕ, false, List, Option, None, Some, sym, ap, subst}
use Rattle.hp_program.specs.declared.program.Program.{Program}
use Rattle.job_gen.specs.job_text.States.{TextValue}
use Rattle.spl_program.specs.spl_meaning.Tables.{Source}
use Rattle.spl_linkable.specs.mpe_segmenter.declared.faults.PrepFault.{PrepFault}
use Rattle.spl_linkable.specs.spl_built.Built.{IsBuilt, IsUnlinked}
use Rattle.spl_linkable.specs.spl_module_names.Faults.{tells_words}
use Rattle.spl_linkable.proofs.spl_module_names_proofs.FaultLaws.{one_told, none_built}
use Rattle.spl_linkable.specs.Linkable as l
use Rattle.spl_linkable.proofs.LinkLaws.{none_told}
use Rattle.spl_program.proofs.ListLemmas.{all_spelled}
use Rattle.spl_program.proofs.ProgramLaws.{programs_unique, faults_are_one, program_has_none}
use Rattle.spl_program.specs.declared.faults.ProgramFault.{ProgramFault}
use Rattle.spl_program.specs.Programs.{IsProgram, IsFault}
use Rattle.hp3000_top.specs.Programs.{IsMade, IsRefused, faulty, unlinked, fault_line, link_line, AreMade, FirstRefused, IsSure, AreSure, FirstFaulty}
use Rattle.hp3000_top.specs.Programs as p

pub some_is : {A : Type 0} {x y : A} → Some x ≡ Some y → x ≡ y
some_is {A} {x} {y} e = ap (from x) e
  where
    from : A → Option A → A
    from z None = z
    from z (Some w) = w

-- a program's texts that have a fault are not made
pub fault_not_made : (t : TextValue) (f : ProgramFault) (q : Program) → IsFault t.units f → IsMade t.units q → ⊥
fault_not_made t f q v w = program_has_none t.units w.units f w.are v

pub fault_same : (t : TextValue) (f : ProgramFault) (line : List ℕ) → IsFault t.units f → IsRefused t line → fault_line t.name f ≡ line
fault_same t f line v (faulty {f = g} w) = ap (fault_line t.name) (faults_are_one t.units f g v w)
fault_same t f line v (unlinked us w x) = absurd (program_has_none t.units us f w v)

-- units of texts break no rule and pass no limit
pub kept_rules : (texts : List (List ℕ)) (us : List Source) → IsProgram texts us → l.KeepRules us
kept_rules texts us k = record { sound = k.sound; spelled = all_spelled k.spell.cut k.spell.units; limits = k.within }

pub sure_not_refused : (t : TextValue) (line : List ℕ) → IsSure t → IsRefused t line → ⊥
sure_not_refused t line k (faulty {f = f} w) = program_has_none t.units k.units f k.are w
sure_not_refused t line k (unlinked {f = f} vs w x) =
    none_told k.units f (kept_rules t.units k.units k.are) k.linkable
    (subst (λ (ys : List Source). IsUnlinked ys f) (programs_unique t.units vs k.units w k.are) x)

pub sure_not_first : {ts : List TextValue} {line : List ℕ} → AreSure ts → FirstRefused ts line → ⊥
sure_not_first p.AreSure.none w = elim w [ ]
sure_not_first (p.AreSure.more {t = t} k ks) (p.FirstRefused.here {line = line} w) = sure_not_refused t line k w
sure_not_first (p.AreSure.more k ks) (p.FirstRefused.behind q w ws) = sure_not_first ks ws

-- a fault of modules that counts no words is that of all modules of the units
pub unlinkable_not_made : (t : TextValue) (us : List Source) (f : PrepFault) (q : Program) → IsProgram t.units us → IsUnlinked us f → tells_words f ≡ false → IsMade t.units q → ⊥
unlinkable_not_made t us f q k x e w =
    none_built us f q e x (subst (λ (ys : List Source). IsBuilt ys q) (programs_unique t.units w.units us w.are k) w.built)

pub unlinkable_same : (t : TextValue) (us : List Source) (f : PrepFault) (line : List ℕ) → IsProgram t.units us → IsUnlinked us f → tells_words f ≡ false → IsRefused t line
    → link_line t.name f ≡ line
unlinkable_same t us f line k x e (faulty {f = g} w) = absurd (program_has_none t.units us g k w)
unlinkable_same t us f line k x e (unlinked {f = g} vs w y) =
    ap (link_line t.name) (sym (one_told us f g e x (subst (λ (ys : List Source). IsUnlinked ys g) (programs_unique t.units vs us w k) y)))

pub first_not_made : {ts : List TextValue} {xs : List Program} {line : List ℕ} → FirstFaulty ts line → AreMade ts xs → ⊥
first_not_made (p.FirstFaulty.here {t = t} {f = f} v) (p.AreMade.more {p = q} w ws) = fault_not_made t f q v w
first_not_made (p.FirstFaulty.unlinkable {t = t} {f = f} us k x e) (p.AreMade.more {p = q} w ws) = unlinkable_not_made t us f q k x e w
first_not_made (p.FirstFaulty.behind k ks) (p.AreMade.more w ws) = first_not_made ks ws

pub first_same : {ts : List TextValue} {a b : List ℕ} → FirstFaulty ts a → FirstRefused ts b → a ≡ b
first_same (p.FirstFaulty.here {t = t} {f = f} v) (p.FirstRefused.here {line = b} w) = fault_same t f b v w
first_same (p.FirstFaulty.here {t = t} {f = f} v) (p.FirstRefused.behind q w ws) = absurd (fault_not_made t f q v w)
first_same (p.FirstFaulty.unlinkable {t = t} {f = f} us k x e) (p.FirstRefused.here {line = b} w) = unlinkable_same t us f b k x e w
first_same (p.FirstFaulty.unlinkable {t = t} {f = f} us k x e) (p.FirstRefused.behind q w ws) = absurd (unlinkable_not_made t us f q k x e w)
first_same (p.FirstFaulty.behind {t = t} k ks) (p.FirstRefused.here {line = b} w) = absurd (sure_not_refused t b k w)
first_same (p.FirstFaulty.behind k ks) (p.FirstRefused.behind q w ws) = first_same ks ws
