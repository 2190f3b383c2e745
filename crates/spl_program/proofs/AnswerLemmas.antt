-- What is answered of texts is what they come to.
use Rattle.std.proofs.Common.{ℕ, ◌≡◌, ◌≤◌, List, map, length, None, Result, Ok, Err, sym, subst, arith}
use Rattle.std.specs.Prelude.{IfOk, IfErr}
use Rattle.std.proofs.lemmas.List.{length-map}
use Rattle.spl_tree.specs.declared.names_and_places.Chars.{Chars}
use Rattle.spl_tree.specs.declared.units.SplUnit.{SplUnit}
use Rattle.spl_tree.specs.declared.names_and_places.At.{At}
use Rattle.spl_cuts.specs.Signs.{Listed}
use Rattle.spl_sound.specs.spl_meaning.Tables.{Source}
use Rattle.spl_sound.specs.declared.units.Sound.{Sound}
use Rattle.spl_sound.specs.Spelled.{source_of}
use Rattle.spl_limits.specs.declared.faults.LimitFault.{LimitFault}
use Rattle.spl_limits.specs.declared.faults.LimitFault.TheVariants as full
use Rattle.spl_limits.specs.Answers.{IsFull}
use Rattle.spl_sound.specs.spl_meaning.Limits.{first_full}
use Rattle.spl_program.specs.declared.faults.ProgramFault.{ProgramFault}
use Rattle.spl_program.specs.declared.faults.ProgramFault.TheVariants as why
use Rattle.spl_program.specs.Texts.{AreCut, AreUnits}
use Rattle.spl_program.specs.Programs.{texts_of, IsProgram, IsFault, tokens, spelling, rules, limits, Tells, Gives, Refuses}
use Rattle.spl_program.specs.Steps.{UncutAmong, UnspelledAmong, BrokenBy}
use Rattle.spl_program.proofs.ListLemmas.{cut_count, unit_count}
use Rattle.spl_program.proofs.ProgramLaws.{programs_unique, faults_are_one, program_has_none}

pub tells_tokens : (texts : List (List ℕ)) (f : ProgramFault) → UncutAmong 1 texts f → Tells texts f
tells_tokens texts (why.Text k at) u = tokens u
tells_tokens texts (why.Rule r at) u = absurd u
tells_tokens texts (why.Limit r at) u = absurd u
tells_tokens texts why.NoMemory u = tt

pub tells_spelling : (texts : List (List ℕ)) (lists : List Listed) (f : ProgramFault) → AreCut 1 texts lists → UnspelledAmong lists f → Tells texts f
tells_spelling texts lists (why.Text k at) c u = spelling lists c u
tells_spelling texts lists (why.Rule r at) c u = absurd u
tells_spelling texts lists (why.Limit r at) c u = absurd u
tells_spelling texts lists why.NoMemory c u = tt

-- as many units as texts
pub few_units : (texts : List Chars) (lists : List Listed) (us : List SplUnit) → length texts ≤ 32 → AreCut 1 (texts_of texts) lists → AreUnits lists (map source_of us)
    → length us ≤ 32
few_units texts lists us l c s =
    let a = length-map us source_of in
    let b = unit_count s in
    let d = cut_count c in
    let e = length-map texts (λ (t : Chars). t.bytes.items) in
    omega (arith, a, b, d, e, l)

pub tells_rules : (texts : List (List ℕ)) (lists : List Listed) (us : List SplUnit) (f : ProgramFault) → AreCut 1 texts lists → AreUnits lists (map source_of us)
    → BrokenBy (map source_of us) f → Tells texts f
tells_rules texts lists us (why.Rule rule at) c a b = rules (map source_of us) (record { lists = lists; cut = c; units = a }) b
tells_rules texts lists us (why.Text k at) c a b = absurd b
tells_rules texts lists us (why.Limit limit at) c a b = absurd b
tells_rules texts lists us why.NoMemory c a b = tt

pub tells_limits : (texts : List (List ℕ)) (lists : List Listed) (us : List SplUnit) (s : Sound) (f : LimitFault) (limit count : ℕ) (at : At) → AreCut 1 texts lists
    → AreUnits lists (map source_of us) → s.units.items ≡ us → f ≡ full.Full limit at count → IsFull (map source_of s.units.items) f → IsFault texts (why.Limit limit at)
tells_limits texts lists us s f limit count at c a same e b =
    limits (map source_of s.units.items) (record { lists = lists; cut = c; units = subst (λ (vs : List SplUnit). AreUnits lists (map source_of vs)) (sym same) a }) s.sound
    (subst (IsFull (map source_of s.units.items)) e b)

pub is_program : (texts : List (List ℕ)) (lists : List Listed) (us : List SplUnit) (s : Sound) → AreCut 1 texts lists → AreUnits lists (map source_of us) → s.units.items ≡ us
    → first_full (map source_of s.units.items) ≡ None → IsProgram texts (map source_of s.units.items)
is_program texts lists us s c a e w = record {
  spell = record { lists = lists; cut = c; units = subst (λ (vs : List SplUnit). AreUnits lists (map source_of vs)) (sym e) a };
  sound = s.sound;
  within = w;
}

-- texts of a program give it, whatever is answered of them
pub gives : (texts : List (List ℕ)) (r : Result Sound ProgramFault) → IfOk r (λ s. IsProgram texts (map source_of s.units.items)) → IfErr r (λ f. Tells texts f)
    → (us : List Source) → IsProgram texts us → Gives r us
gives texts (Ok s) h k us p = programs_unique texts (map source_of s.units.items) us h p
gives texts (Err why.NoMemory) h k us p = tt
gives texts (Err (why.Text kind at)) h k us p = program_has_none texts us (why.Text kind at) p k
gives texts (Err (why.Rule r at)) h k us p = program_has_none texts us (why.Rule r at) p k
gives texts (Err (why.Limit l at)) h k us p = program_has_none texts us (why.Limit l at) p k

-- and those with a fault that
pub refuses : (texts : List (List ℕ)) (r : Result Sound ProgramFault) → IfOk r (λ s. IsProgram texts (map source_of s.units.items)) → IfErr r (λ f. Tells texts f)
    → (f : ProgramFault) → IsFault texts f → Refuses r f
refuses texts (Ok s) h k f p = program_has_none texts (map source_of s.units.items) f h p
refuses texts (Err why.NoMemory) h k f p = tt
refuses texts (Err (why.Text kind at)) h k f p = faults_are_one texts (why.Text kind at) f k p
refuses texts (Err (why.Rule r at)) h k f p = faults_are_one texts (why.Rule r at) f k p
refuses texts (Err (why.Limit l at)) h k f p = faults_are_one texts (why.Limit l at) f k p
