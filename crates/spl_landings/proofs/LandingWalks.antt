-- A loop over labels: their marks, and where they lead.
use Rattle.std.proofs.Common.{◌≡◌, ◌<◌, ◌≤◌, ℕ, suc, ◌+◌, false, Bool, List, [], ◌∷◌, ◌++◌, map, drop, length, get_or, replicate, Option, append_assoc, append-nil, refl, sym, ap, subst, ◌∙◌}
use Rattle.spl_tree.specs.Views.{letters}
use Rattle.spl_module_code.specs.spl_meaning.Names.{find}
use Rattle.spl_module_code.specs.spl_found.OwnNames.{with_name}
use Rattle.spl_branch.specs.declared.buffer.Code.{Code}
use Rattle.spl_branch.specs.Codes.{SameFrame}
use Rattle.spl_spots.specs.declared.name_maps.NameMap.{NameMap}
use Rattle.spl_spots.specs.NameMaps.{entries_of, shown, behind_table}
use Rattle.spl_spots.proofs.NameMapLemmas.{shown_added, behind_more, behind_none, behind_empty}
use Rattle.spl_module_code.specs.spl_statement_code.Landings as there
use Rattle.spl_landing_maps.specs.declared.landing.Landing.{Landing}
use Rattle.spl_landing_maps.specs.Landings.{landing_of, landings_of}
use Rattle.spl_module_code.specs.LabelsOfBodies.{landed_from}
use Rattle.spl_module_code.specs.LabelsOfBodies as code
use Rattle.spl_landings.specs.declared.label_lists.Label.{Label}
use Rattle.spl_landings.specs.Labels.{label_of}
use Rattle.spl_spots.proofs.ListWalks.{onward, onward_end}

-- a code with marks for some labels, where others are left
pub record Landed (from now : Code) (m : NameMap Landing) (left all : List code.Label) : Type 0 where
  pub map_is : behind_table (shown landing_of (find (entries_of m))) (landed_from (length now.marks.items) left) ≡ find (landed_from (length from.marks.items) all)
  pub marks_are : now.marks.items ++ replicate (length left) false ≡ from.marks.items ++ replicate (length all) false
  pub pieces_are : now.pieces ≡ from.pieces
  pub wants_are : now.wants ≡ from.wants
  pub same : SameFrame from now

same_frame : (c : Code) → SameFrame c c
same_frame c = record { segment = refl; entries = refl; main = refl }

-- before the first
pub landed_first : (c : Code) (m : NameMap Landing) (ls : List Label) → entries_of m ≡ [] → Landed c c m (map label_of (drop 0 ls)) (map label_of ls)
landed_first c m ls e = record {
  map_is = behind_empty landing_of (entries_of m) (landed_from (length c.marks.items) (map label_of ls)) e;
  marks_are = refl;
  pieces_are = refl;
  wants_are = refl;
  same = same_frame c;
}

longer : (xs : List Bool) (b : Bool) (ys : List Bool) → ys ≡ xs ++ b ∷ [] → length ys ≡ suc (length xs)
longer xs b ys e = ap length e ∙ by xs
  where
    by : (xs : List Bool) → length (xs ++ b ∷ []) ≡ suc (length xs)
    by [] = refl
    by (x ∷ xs) = ap suc (by xs)

-- where the next leads
map_next : (m n : NameMap Landing) (k j : ℕ) (x : code.Label) (xs : List code.Label) (l : Landing) → find (entries_of n) ≡ with_name (find (entries_of m)) x.name l
    → landing_of l ≡ record { mark = k; pending = x.pending } → j ≡ suc k
    → behind_table (shown landing_of (find (entries_of m))) (landed_from k (x ∷ xs)) ≡ behind_table (shown landing_of (find (entries_of n))) (landed_from j xs)
map_next m n k j x xs l e is next =
    behind_more (shown landing_of (find (entries_of m))) x.name (record { mark = k; pending = x.pending }) (landed_from (suc k) xs)
    ∙ ap (λ (h : List ℕ → Option there.Landing). behind_table h (landed_from (suc k) xs))
    (ap (λ a. with_name (shown landing_of (find (entries_of m))) x.name a) (sym is)
    ∙ sym (shown_added landing_of (find (entries_of n)) (find (entries_of m)) x.name l e))
    ∙ ap (λ i. behind_table (shown landing_of (find (entries_of n))) (landed_from i xs)) (sym next)

marks_next : (ms ns : List Bool) (n : ℕ) → ns ≡ ms ++ false ∷ [] → ms ++ replicate (suc n) false ≡ ns ++ replicate n false
marks_next ms ns n e = sym (append_assoc ms (false ∷ []) (replicate n false)) ∙ ap (λ xs. xs ++ replicate n false) (sym e)

-- behind the next
landed_more : (from c d : Code) (m n : NameMap Landing) (x : code.Label) (xs all : List code.Label) (l : Landing)
    → Landed from c m (x ∷ xs) all → d.marks.items ≡ c.marks.items ++ false ∷ [] → d.pieces ≡ c.pieces → d.wants ≡ c.wants → SameFrame c d
    → find (entries_of n) ≡ with_name (find (entries_of m)) x.name l → landing_of l ≡ record { mark = length c.marks.items; pending = x.pending }
    → Landed from d n xs all
landed_more from c d m n x xs all l k marks pieces wants same e is = record {
  map_is = sym (map_next m n (length c.marks.items) (length d.marks.items) x xs l e is (longer c.marks.items false d.marks.items marks)) ∙ k.map_is;
  marks_are = sym (marks_next c.marks.items d.marks.items (length xs) marks) ∙ k.marks_are;
  pieces_are = pieces ∙ k.pieces_are;
  wants_are = wants ∙ k.wants_are;
  same = record {
    segment = same.segment ∙ k.same.segment;
    entries = same.entries ∙ k.same.entries;
    main = same.main ∙ k.same.main;
  };
}

pub landed_next : (from c d : Code) (m n : NameMap Landing) (ls : List Label) (i : ℕ) (one : Label) (all : List code.Label) (l : Landing)
    → Landed from c m (map label_of (drop i ls)) all → i < length ls → one ≡ get_or ls i one
    → d.marks.items ≡ c.marks.items ++ false ∷ [] → d.pieces ≡ c.pieces → d.wants ≡ c.wants → SameFrame c d
    → find (entries_of n) ≡ with_name (find (entries_of m)) (letters one.name) l → l.mark ≡ length c.marks.items → l.pending ≡ one.pending
    → Landed from d n (map label_of (drop (i + 1) ls)) all
landed_next from c d m n ls i one all l k lt is marks pieces wants same e mark pending =
    landed_more from c d m n (label_of one) (map label_of (drop (i + 1) ls)) all l
    (subst (λ (xs : List code.Label). Landed from c m xs all) (onward label_of (λ xs. xs) ls i one lt is) k)
    marks pieces wants same e (ap (λ (k : ℕ). record { mark = k; pending = l.pending }) mark ∙ ap (λ (p : ℕ). record { mark = length c.marks.items; pending = p }) pending)

-- behind the last
none_left : (ls : List Label) (i : ℕ) → length ls ≤ i → map label_of (drop i ls) ≡ []
none_left ls i le = onward_end label_of (λ xs. xs) ls i le

landed_all : (from c : Code) (m : NameMap Landing) (ls : List Label) (i : ℕ) (all : List code.Label) → Landed from c m (map label_of (drop i ls)) all → length ls ≤ i
    → Landed from c m [] all
landed_all from c m ls i all k le = subst (λ (xs : List code.Label). Landed from c m xs all) (none_left ls i le) k

shown_so : (m : NameMap Landing) → landings_of m ≡ shown landing_of (find (entries_of m))
unfolding shown
shown_so m = refl

pub map_last : (from c : Code) (m : NameMap Landing) (ls : List Label) (i : ℕ) (all there : List code.Label) → Landed from c m (map label_of (drop i ls)) all → length ls ≤ i
    → all ≡ there → landings_of m ≡ find (landed_from (length from.marks.items) there)
map_last from c m ls i all there k le is =
    shown_so m ∙ sym (behind_none (shown landing_of (find (entries_of m)))) ∙ (landed_all from c m ls i all k le).map_is
    ∙ ap (λ (xs : List code.Label). find (landed_from (length from.marks.items) xs)) is

pub marks_last : (from c : Code) (m : NameMap Landing) (ls : List Label) (i : ℕ) (all there : List code.Label) → Landed from c m (map label_of (drop i ls)) all → length ls ≤ i
    → all ≡ there → c.marks.items ≡ from.marks.items ++ replicate (length there) false
marks_last from c m ls i all there k le is =
    sym (append-nil c.marks.items) ∙ (landed_all from c m ls i all k le).marks_are
    ∙ ap (λ (xs : List code.Label). from.marks.items ++ replicate (length xs) false) is
