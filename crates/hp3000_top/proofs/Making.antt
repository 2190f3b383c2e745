-- What is made of a program's texts.
use Rattle.std.proofs.Common.{ℕ, ◌≡◌, ◌≤◌, List, map, length, Option, Some, Ok, Err, ap, sym, subst, ◌∙◌}
use Rattle.std.specs.Prelude.{Result, slice_get, IfOk, IfErr}
use Rattle.hp_program.specs.declared.program.Program.{Program}
use Rattle.job_gen.specs.job_text.Fits.{Each}
use Rattle.job_gen.specs.job_text.States.{TextValue}
use Rattle.spl_program.specs.spl_meaning.Tables.{Source}
use Rattle.spl_tree.specs.declared.names_and_places.Chars.{Chars}
use Rattle.spl_program.specs.declared.faults.ProgramFault.{ProgramFault}
use Rattle.spl_program.specs.declared.faults.ProgramFault.TheVariants as why
use Rattle.spl_program.specs.Programs.{IsProgram, Tells}
use Rattle.spl_linkable.specs.spl_branch.declared.modules.Module.{Module}
use Rattle.spl_linkable.specs.mpe_segmenter.Names.{parts}
use Rattle.spl_linkable.specs.mpe_segmenter.Sites.{Links}
use Rattle.spl_linkable.specs.spl_built.Built.{IsBuilt, IsLinked}
use Rattle.hp3000_top.specs.declared.unmade.Unmade.{Unmade}
use Rattle.hp3000_top.specs.declared.unmade.Unmade.TheVariants as unmade
use Rattle.hp3000_top.specs.Programs.{IsMade, IsRefused, faulty, unlinked, fault_line}
use Rattle.hp3000_top.specs.Steps.{IsTold, UnlinkedBy, RefusedBy, IsCopy}
use Rattle.hp3000_top.proofs.Loops.{each_slice}

-- no text is too long
pub short_so : (us xs : List Chars) → Each (λ text. length text ≤ 1048576) (map (λ (t : Chars). t.bytes.items) us) → xs ≡ us → (i : ℕ) (t : Chars) → slice_get xs i ≡ Some t
    → length t.bytes.items ≤ 1048576
short_so us xs h same i t e = each_slice (λ text. length text ≤ 1048576) (λ (t : Chars). t.bytes.items) us i t h (ap (λ (ys : List Chars). slice_get ys i) (sym same) ∙ e)

-- a fault that is told refuses the program
pub refused_so : (t : TextValue) (texts : List (List ℕ)) (f : ProgramFault) (line : List ℕ) → texts ≡ t.units → IsTold f → Tells texts f → line ≡ fault_line t.name f → IsRefused t line
refused_so t texts (why.Text k at) line same n h e = subst (λ l. IsRefused t l) (sym e) (faulty (subst (λ ts. Tells ts (why.Text k at)) same h))
refused_so t texts (why.Rule r at) line same n h e = subst (λ l. IsRefused t l) (sym e) (faulty (subst (λ ts. Tells ts (why.Rule r at)) same h))
refused_so t texts (why.Limit r at) line same n h e = subst (λ l. IsRefused t l) (sym e) (faulty (subst (λ ts. Tells ts (why.Limit r at)) same h))
refused_so t texts why.NoMemory line same n h e = absurd n

-- what is built of them is made of the texts, and modules with a fault refuse the program
pub linked_made : (texts : List (List ℕ)) (us : List Source) (r : Result Program Unmade) → IsProgram texts us → IfOk r (λ p. IsBuilt us p) → IfOk r (λ p. IsMade texts p)
linked_made texts us (Ok p) k h = record { units = us; are = k; built = h }
linked_made texts us (Err e) k h = tt

unlinked_so : (t : TextValue) (us : List Source) (e : Unmade) → IsProgram t.units us → UnlinkedBy t.name us e → RefusedBy t e
unlinked_so t us (unmade.Refused line) k h = subst (IsRefused t) (sym h.2) (unlinked us k h.1)
unlinked_so t us unmade.NoMemory k h = tt

pub linked_refused : (t : TextValue) (us : List Source) (r : Result Program Unmade) → IsProgram t.units us → IfErr r (λ e. UnlinkedBy t.name us e)
    → IfErr r (λ e. RefusedBy t e)
linked_refused t us (Ok p) k h = tt
linked_refused t us (Err e) k h = unlinked_so t us e k h

-- ---- programs read of their files

-- what modules make
same_linked : (ms : List Module) (globals : List ℕ) (p q : Program) → IsLinked ms globals p → IsCopy p q → IsLinked ms globals q
same_linked ms globals p q k c = record {
  faultless = k.faultless;
  makes = record {
    segments = c.segments ∙ k.makes.segments;
    main = k.makes.main ∙ ap (λ (n : ℕ). place n p.entry) (sym c.main) ∙ ap (λ (n : ℕ). place q.main n) (sym c.entry);
    data_words = c.globals ∙ k.makes.data_words;
  };
  links = subst (λ (ss : List (List ℕ)). Links (parts ms) ss) (sym c.segments) k.links;
}
  where
    place : ℕ → ℕ → Option (ℕ × ℕ)
    place m n = Some (m, n)

-- an equal program is made of the same texts
pub filed_is_made : (texts : List (List ℕ)) (p q : Program) → IsMade texts p → IsCopy p q → IsMade texts q
filed_is_made texts p q m c = record {
  units = m.units;
  are = m.are;
  built = record {
    layout = m.built.layout;
    is_layout = m.built.is_layout;
    modules = m.built.modules;
    are_modules = m.built.are_modules;
    linked = same_linked m.built.modules m.built.layout.globals.items p q m.built.linked c;
  };
}
