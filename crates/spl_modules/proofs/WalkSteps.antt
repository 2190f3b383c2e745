-- Loops over declarations: what is entered behind those from one on.
use Rattle.std.proofs.lemmas.List.{map_push}
use Rattle.std.proofs.Common.{ℕ, true, ◌≡◌, ◌<◌, ◌≤◌, ◌+◌, List, [], ◌∷◌, ◌++◌, map, drop, length, get_or, sym, ap, ◌∙◌}
use Rattle.spl_tree.specs.declared.declarations.Decl.{Decl}
use Rattle.spl_tree.specs.DeclarationTrees as decl
use Rattle.spl_tree.specs.DeclarationTrees.{Heading, Declaration, Declarations, declarations}
use Rattle.spl_tree.specs.StatementTrees.{Statement}
use Rattle.spl_tree.specs.declared.declarations.Heading as code
use Rattle.spl_tree.specs.declared.declarations.Body.{Body}
use Rattle.spl_tree.specs.declared.declarations.Decl.TheVariants.{Procedure, rolls-Procedure}
use Rattle.spl_tree.specs.declared.declarations.Decl.TheFolds.{fold-roll-Decl, fold_out-Body}
use Rattle.spl_tree.specs.Views.{statement}
use Rattle.spl_tree.specs.Spells.{BodyTree, declaration_step, body_step, declaration, heading_tree}
use Rattle.spl_places.proofs.spl_lists_proofs.NameWalks.{onward, onward_end}
use Rattle.spl_scopes.specs.Entries.{main, inner_entry, inner_entries}
use Rattle.spl_sound.specs.spl_meaning.Names.{Table, find}
use Rattle.spl_places.specs.NameMaps.{entries_of, behind_table}
use Rattle.spl_places.specs.spl_spots.declared.name_maps.NameMap.{NameMap}
use Rattle.spl_places.proofs.NameMapLemmas.{behind_none, behind_nothing}
use Rattle.spl_modules.specs.declared.walk.UnitEntries.{UnitEntries}
use Rattle.spl_modules.specs.Walks.{walk_of}
use Rattle.spl_modules.specs.Entered.{Indexes, Entered, entered_of, maps_of, with_entry, behind_entries, and_inner, inner_index, inner_indexes, Walk, with_declared, with_all}
use Rattle.spl_modules.proofs.ModuleLaws.{behind_both, behind_two, inner_named, length_one}

pub inner_step : (g : ℕ) (list : List Decl) (i : ℕ) (d : Decl) → i < length list → d ≡ get_or list i d
    → inner_entries g main (declarations (map declaration (drop i list)))
    ≡ inner_entry g main (declaration d) ++ inner_entries g main (declarations (map declaration (drop (i + 1) list)))
inner_step g list i d lt is = onward declaration (λ ds. inner_entries g main (declarations ds)) list i d lt is

pub inner_end : (g : ℕ) (list : List Decl) (i : ℕ) → length list ≤ i → inner_entries g main (declarations (map declaration (drop i list))) ≡ []
inner_end g list i le = onward_end declaration (λ ds. inner_entries g main (declarations ds)) list i le

pub index_step : (k : ℕ) (list : List Decl) (i : ℕ) (d : Decl) → i < length list → d ≡ get_or list i d
    → inner_indexes k (declarations (map declaration (drop i list)))
    ≡ inner_index k (declaration d) ++ inner_indexes (k + length (inner_index k (declaration d))) (declarations (map declaration (drop (i + 1) list)))
index_step k list i d lt is = onward declaration (λ ds. inner_indexes k (declarations ds)) list i d lt is

-- behind all declarations a map has all names
pub names_end : (has : Indexes) (k : ℕ) (list : List Decl) (i : ℕ) → length list ≤ i
    → behind_table has (inner_indexes k (declarations (map declaration (drop i list)))) ≡ has
names_end has k list i le = onward_end declaration (λ ds. behind_table has (inner_indexes k (declarations ds))) list i le ∙ behind_none has

-- before all it has none
pub names_first : (es t : Table ℕ) → es ≡ [] → behind_table (find es) t ≡ find t
names_first es t is = ap (λ (fs : Table ℕ). behind_table (find fs) t) is ∙ behind_nothing t

pub ruleset inner_steps = (inner_step, inner_end, index_step, names_end)

pub unit_step : (g : ℕ) (w : Walk) (list : List Decl) (i : ℕ) (d : Decl) → i < length list → d ≡ get_or list i d
    → with_all g w (declarations (map declaration (drop i list)))
    ≡ with_all g (with_declared g w (declaration d)) (declarations (map declaration (drop (i + 1) list)))
unit_step g w list i d lt is = onward declaration (λ ds. with_all g w (declarations ds)) list i d lt is

pub unit_end : (g : ℕ) (w : Walk) (list : List Decl) (i : ℕ) → length list ≤ i → with_all g w (declarations (map declaration (drop i list))) ≡ w
unit_end g w list i le = onward_end declaration (λ ds. with_all g w (declarations ds)) list i le

pub ruleset unit_steps = (unit_step, unit_end)

-- ---- a declaration more of a body's list

pub entered_more : (t old new : Entered) (g : ℕ) (list : List Decl) (i : ℕ) (d : Decl) → i < length list → d ≡ get_or list i d
    → new ≡ behind_entries old (inner_entry g main (declaration d))
    → behind_entries old (inner_entries g main (declarations (map declaration (drop i list)))) ≡ t
    → behind_entries new (inner_entries g main (declarations (map declaration (drop (i + 1) list)))) ≡ t
entered_more t old new g list i d lt is one all =
    let rest = inner_entries g main (declarations (map declaration (drop (i + 1) list))) in
    ap (λ (u : Entered). behind_entries u rest) one ∙ sym (behind_both old (inner_entry g main (declaration d)) rest)
    ∙ ap (λ es. behind_entries old es) (sym (inner_step g list i d lt is)) ∙ all

pub names_more : (has old new : Indexes) (t u : Entered) (g : ℕ) (list : List Decl) (i : ℕ) (d : Decl) → i < length list → d ≡ get_or list i d
    → u ≡ behind_entries t (inner_entry g main (declaration d))
    → new ≡ and_inner old (length (t.made g)) (declaration d)
    → behind_table old (inner_indexes (length (t.made g)) (declarations (map declaration (drop i list)))) ≡ has
    → behind_table new (inner_indexes (length (u.made g)) (declarations (map declaration (drop (i + 1) list)))) ≡ has
names_more has old new t u g list i d lt is one name all =
    let k = length (t.made g) in
    let rest = declarations (map declaration (drop (i + 1) list)) in
    ap (λ (v : Entered). behind_table new (inner_indexes (length (v.made g)) rest)) one
    ∙ ap (λ (n : ℕ). behind_table new (inner_indexes n rest)) (length_one t g (declaration d))
    ∙ ap (λ (f : Indexes). behind_table f (inner_indexes (k + length (inner_index k (declaration d))) rest)) (name ∙ inner_named old k (declaration d))
    ∙ behind_two old (inner_index k (declaration d)) (inner_indexes (k + length (inner_index k (declaration d))) rest)
    ∙ ap (λ t. behind_table old t) (sym (index_step k list i d lt is)) ∙ all

-- ---- a declaration more of a unit

-- a procedure as the grammar has it
pub procedure_tree : (h : code.Heading) (b : Body)
    → declaration (Procedure h b) ≡ decl.Declaration.procedure (heading_tree h) (declarations (map declaration b.items.items)) (map statement b.statements.items)
procedure_tree h b =
    ap declaration (sym (rolls-Procedure h b)) ∙ fold-roll-Decl decl.Declaration BodyTree declaration_step body_step _
    ∙ ap (λ (t : BodyTree). decl.Declaration.procedure (heading_tree h) (declarations t.items) t.statements)
    (fold_out-Body decl.Declaration BodyTree declaration_step body_step b)

pub maps_pushed : (ms new : List (NameMap ℕ)) (m : NameMap ℕ) → new ≡ ms ++ m ∷ [] → maps_of new ≡ maps_of ms ++ find (entries_of m) ∷ []
maps_pushed ms new m is = ap maps_of is ∙ map_push (λ (n : NameMap ℕ). find (entries_of n)) ms m

pub procedure_declared : (g : ℕ) (old new : UnitEntries) (own : NameMap ℕ) (h : Heading) (items : Declarations) (ss : List Statement) (d : Declaration)
    → d ≡ decl.Declaration.procedure h items ss
    → entered_of new.modules.items ≡ behind_entries (with_entry (entered_of old.modules.items) h.name h.segment true) (inner_entries h.segment main items)
    → find (entries_of own) ≡ find (inner_indexes (length ((with_entry (entered_of old.modules.items) h.name h.segment true).made h.segment)) items)
    → new.main ≡ old.main → new.routines.items ≡ old.routines.items ++ own ∷ [] → walk_of new ≡ with_declared g (walk_of old) d
procedure_declared g old new own h items ss d is entered names same pushed =
    let routines =
    maps_pushed old.routines.items new.routines.items own pushed
    ∙ ap (λ (f : Indexes). maps_of old.routines.items ++ f ∷ []) names in
    (λ i. record { entered = entered i; main_body = find (entries_of (same i)); routines = routines i })
    ∙ ap (λ (e : Declaration). with_declared g (walk_of old) e) (sym is)

-- what a subroutine of the main body makes
abbrev subroutine_made : ℕ → Walk → Declaration → Walk
subroutine_made g w d = record {
  entered = behind_entries w.entered (inner_entry g main d);
  main_body = and_inner w.main_body (length (w.entered.made g)) d;
  routines = w.routines;
}

pub subroutine_declared : (g : ℕ) (old new : UnitEntries) (h : Heading) (s : Statement) (d : Declaration) → d ≡ decl.Declaration.subroutine h s
    → entered_of new.modules.items ≡ behind_entries (entered_of old.modules.items) (inner_entry g main d)
    → find (entries_of new.main) ≡ and_inner (find (entries_of old.main)) (length ((entered_of old.modules.items).made g)) d
    → new.routines ≡ old.routines → walk_of new ≡ with_declared g (walk_of old) d
subroutine_declared g old new h s d is entered names same =
    (λ i. record { entered = entered i; main_body = names i; routines = maps_of (same i).items })
    ∙ ap (λ (e : Declaration). subroutine_made g (walk_of old) e) is ∙ ap (λ (e : Declaration). with_declared g (walk_of old) e) (sym is)
