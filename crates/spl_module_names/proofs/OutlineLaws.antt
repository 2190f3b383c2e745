-- The modules of units have the outlines that the units give.
-- 1. a module of a unit in a segment has that of the unit's entries and wants there   (outline_is)
-- 2. which segments have one is settled by the units                                 (outlines_are, all_outlines)
use Rattle.std.proofs.Common.{◌≡◌, ◌<◌, ◌≤◌, ◌⊎◌, inl, inr, ℕ, List, [], ◌∷◌, ◌++◌, map, Option, Some, None, refl, sym, ap, ◌∙◌}
use Rattle.std.specs.Prelude.{is_some, option_map}
use Rattle.std.specs.Global.{Vec}
use Rattle.std.proofs.lemmas.Bool.{cases_lt}
use Rattle.std.proofs.lemmas.List.{map-append}
use Rattle.spl_built.specs.spl_tree.Views.{letters}
use Rattle.spl_built.specs.spl_meaning.Names.{find}
use Rattle.spl_built.specs.spl_branch.declared.buffer.Entry as code
use Rattle.spl_built.specs.spl_branch.declared.modules.Want.{Want}
use Rattle.spl_built.specs.spl_branch.declared.modules.Module.{Module}
use Rattle.spl_built.specs.spl_branch.Modules.{define_of}
use Rattle.spl_built.specs.spl_code.Parts.{wants_of}
use Rattle.spl_built.specs.spl_code.Parts as parts
use Rattle.spl_built.specs.spl_scopes.Entries.{module_entries}
use Rattle.spl_built.specs.spl_scopes.Scopes.{Placed, first_reached, placed_units}
use Rattle.spl_built.specs.spl_modules.Made.{Made, made_of, made_from}
use Rattle.spl_built.specs.spl_module_code.Modules.{main_mark, module_written, numbered, next_number, IsModuleOf, AreOfUnit, AreOf, program_uses}
use Rattle.spl_built.specs.spl_module_code.Modules.{AreOfUnit as u}
use Rattle.spl_built.specs.spl_module_code.Modules.{AreOf as a}
use Rattle.spl_built.specs.mpe_segmenter.Entries.{Wanted, wanted_of}
use Rattle.spl_module_names.specs.Outlines.{Defined, defined_of, Outline, outline_of, ModulesHaveOneOutline}

-- ---- 1. a module

defined_by : Made → Defined
defined_by e = record { name = e.name; callable = e.callable }

defines_are : (marks : ℕ → ℕ) (es : List code.Entry) → map defined_of (map (define_of marks) es) ≡ map defined_by (map made_of es)
unfolding defined_by
defines_are marks [] = refl
defines_are marks (e ∷ es) = ap (λ ds. defined_by (made_of e) ∷ ds) (defines_are marks es)

wanted_by : parts.Wanted → Wanted
wanted_by w = record { name = w.name; gate = w.gate }

wants_are : (ws : List Want) → map wanted_of ws ≡ map wanted_by (wants_of ws)
unfolding wanted_by
wants_are [] = refl
wants_are (w ∷ ws) = ap (λ vs. wanted_of w ∷ vs) (wants_are ws)

main_is : (marks : ℕ → ℕ) (o : Option ℕ) → is_some (option_map marks o) ≡ is_some o
main_is marks None = refl
main_is marks (Some n) = refl

-- what a unit gives in a segment
outline_from : Placed → List ℕ → ℕ → Outline
outline_from p name g = record {
  segment = name;
  defines = map defined_by (made_from 0 (module_entries p.unit g));
  wants = map wanted_by (module_written p g).wants;
  main = is_some (main_mark p g);
}

-- the offsets of a module are some marks, which do not matter
record Marked (m : Module) (es : List code.Entry) (o : Option ℕ) : Type 0 where
  marks : ℕ → ℕ
  defines : m.defines.items ≡ map (define_of marks) es
  main : m.main ≡ option_map marks o

marked : (p : Placed) (name : List ℕ) (g : ℕ) (m : Module) (of : IsModuleOf p name g m) → Marked m of.code.entries.items of.code.main
marked p name g m of = by (cases_lt 16383 m.size)
  where
    by : (16383 < m.size) ⊎ (m.size ≤ 16383) → Marked m of.code.entries.items of.code.main
    by (inl long) = let o = of.oversized long in record { marks = λ l. 0; defines = o.defines; main = o.main }
    by (inr le) = let f = of.finished le in record { marks = f.marks; defines = f.defines; main = f.main }

outline_is : (p : Placed) (name : List ℕ) (g : ℕ) (m : Module) → IsModuleOf p name g m → outline_of m ≡ outline_from p name g
unfolding outline_from
outline_is p name g m of =
    let at = marked p name g m of in
    let segment = ap letters of.segment ∙ of.is.segment in
    let defines = ap (map defined_of) at.defines ∙ defines_are at.marks of.code.entries.items ∙ ap (map defined_by) of.is.entries in
    let wants = ap (λ (v : Vec Want). map wanted_of v.items) of.wants ∙ wants_are of.code.wants.items ∙ ap (map wanted_by) of.is.wants in
    let main = ap is_some at.main ∙ main_is at.marks of.code.main ∙ ap is_some of.is.main in
    λ i. record { segment = segment i; defines = defines i; wants = wants i; main = main i }

-- ---- 2. units

-- the outline of the module of a name, where it has one
outlines_at : Placed → List ℕ → Option ℕ → List Outline
outlines_at p name None = []
outlines_at p name (Some g) = outline_from p name g ∷ []

taken_with : List ℕ → Option ℕ → List ℕ
taken_with taken None = taken
taken_with taken (Some g) = g ∷ taken

outlines_in : Placed → List ℕ → List (List ℕ) → List Outline
outlines_in p taken [] = []
outlines_in p taken (name ∷ names) =
    outlines_at p name (next_number p taken (find (numbered 0 p.unit.segments) name))
    ++ outlines_in p (taken_with taken (next_number p taken (find (numbered 0 p.unit.segments) name))) names

outlines_are : (p : Placed) (taken : List ℕ) (names : List (List ℕ)) (ms : List Module) → AreOfUnit p taken names ms
    → map outline_of ms ≡ outlines_in p taken names
unfolding outlines_in outlines_at taken_with
outlines_are p taken [] _ u.none = refl
outlines_are p taken (name ∷ names) _ (u.more {g = g} {m = m} {ms = ms} at of rest) =
    let first = outline_is p name g m of in
    let others = outlines_are p (g ∷ taken) names ms rest in
    (λ i. first i ∷ others i) ∙ sym (ap (λ (o : Option ℕ). outlines_at p name o ++ outlines_in p (taken_with taken o) names) at)
outlines_are p taken (name ∷ names) ms (u.skip at rest) =
    outlines_are p taken names ms rest ∙ sym (ap (λ (o : Option ℕ). outlines_at p name o ++ outlines_in p (taken_with taken o) names) at)

outlines_among : List (List ℕ) → List Placed → List Outline
outlines_among names [] = []
outlines_among names (p ∷ ps) = outlines_in p [] names ++ outlines_among names ps

all_outlines : (names : List (List ℕ)) (ps : List Placed) (ms : List Module) → AreOf names ps ms → map outline_of ms ≡ outlines_among names ps
unfolding outlines_among
all_outlines names [] _ a.none = refl
all_outlines names (p ∷ ps) _ (a.more {ms = ms} {ns = ns} one others) =
    let first = outlines_are p [] names ms one in
    let rest = all_outlines names ps ns others in
    map-append outline_of ms ns ∙ (λ i. first i ++ rest i)

pub one_outline : ModulesHaveOneOutline
one_outline us ms ns are others =
    all_outlines (program_uses us) (placed_units (first_reached us) us) ms are
    ∙ sym (all_outlines (program_uses us) (placed_units (first_reached us) us) ns others)
