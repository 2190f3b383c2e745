-- The segments of a unit: their names by their numbers, and their numbers by their names.
use Rattle.std.proofs.Common.{◌≡◌, ◌<◌, ◌≤◌, ℕ, ◌+◌, List, [], ◌∷◌, map, drop, length, get_or, Option, Some, None, sym, ap, ◌∙◌, add-one}
use Rattle.std.specs.Prelude.{option_map}
use Rattle.std.specs.List.{slice_get}
use Rattle.std.proofs.lemmas.Option.{slice_get-map, slice_get-get_or, slice_get_past}
use Rattle.spl_tree.specs.declared.names_and_places.Name.{Name}
use Rattle.spl_tree.specs.declared.units.SplUnit.{SplUnit}
use Rattle.spl_tree.specs.Views.{letters}
use Rattle.spl_module_code.specs.spl_meaning.Names.{Table, find}
use Rattle.spl_module_code.specs.spl_sound.Spelled.{source_of}
use Rattle.spl_module_code.specs.spl_places.spl_spots.declared.name_maps.NameMap.{NameMap}
use Rattle.spl_module_code.specs.spl_places.NameMaps.{entries_of, behind_table}
use Rattle.spl_module_code.proofs.spl_places_proofs.NameMapLemmas.{behind_none, behind_nothing}
use Rattle.spl_module_code.specs.Modules.{in_list, named_segment, numbered}
use Rattle.spl_unit_codes.proofs.ListWalks.{onward, onward_end}

-- ---- a name by its number

name_at : (u : SplUnit) (g : ℕ) (o : Option Name) → slice_get u.segments.items g ≡ o → named_segment (source_of u) g ≡ in_list (option_map letters o)
name_at u g o is = ap in_list (slice_get-map letters u.segments.items g ∙ ap (λ p. option_map letters p) is)

found_at : (u : SplUnit) (g i : ℕ) (names : List Name) (o : Option Name) → names ≡ u.segments.items → i ≡ g → slice_get names i ≡ o → slice_get u.segments.items g ≡ o
found_at u g i names o all at is = ap (λ k. slice_get u.segments.items k) (sym at) ∙ ap (λ xs. slice_get xs i) (sym all) ∙ is

pub name_there : (u : SplUnit) (g i : ℕ) (names : List Name) (name : Name) → names ≡ u.segments.items → i ≡ g → i < length names → name ≡ get_or names i name
    → named_segment (source_of u) g ≡ letters name ∷ []
name_there u g i names name all at lt is =
    name_at u g (Some name) (found_at u g i names (Some name) all at (slice_get-get_or names i name lt ∙ ap (λ x. Some x) (sym is)))

pub name_missing : (u : SplUnit) (g i : ℕ) (names : List Name) → names ≡ u.segments.items → i ≡ g → length names ≤ i → named_segment (source_of u) g ≡ []
name_missing u g i names all at le = name_at u g None (found_at u g i names None all at (slice_get_past names i le))

-- ---- numbers by names

-- before the first
pub numbers_first : (es t : Table ℕ) → es ≡ [] → behind_table (find es) t ≡ find t
numbers_first es t is = ap (λ (fs : Table ℕ). behind_table (find fs) t) is ∙ behind_nothing t

-- one more, which stands in the map as it would behind it
pub numbers_more : (m n : NameMap ℕ) (list : List Name) (i : ℕ) (x : Name) (t : Table ℕ) → i < length list → x ≡ get_or list i x
    → ((rest : Table ℕ) → behind_table (find (entries_of n)) rest ≡ behind_table (find (entries_of m)) ((letters x, i) ∷ rest))
    → behind_table (find (entries_of m)) (numbered i (map letters (drop i list))) ≡ find t
    → behind_table (find (entries_of n)) (numbered (i + 1) (map letters (drop (i + 1) list))) ≡ find t
numbers_more m n list i x t lt is add before =
    let rest = map letters (drop (i + 1) list) in
    add (numbered (i + 1) rest)
    ∙ ap (λ k. behind_table (find (entries_of m)) ((letters x, i) ∷ numbered k rest)) (add-one i)
    ∙ sym (onward letters (λ ns. behind_table (find (entries_of m)) (numbered i ns)) list i x lt is) ∙ before

-- all
pub numbers_all : (m : NameMap ℕ) (list : List Name) (i : ℕ) (t : Table ℕ) → length list ≤ i
    → behind_table (find (entries_of m)) (numbered i (map letters (drop i list))) ≡ find t → find (entries_of m) ≡ find t
numbers_all m list i t le before =
    sym (behind_none (find (entries_of m))) ∙ sym (onward_end letters (λ ns. behind_table (find (entries_of m)) (numbered i ns)) list i le) ∙ before
