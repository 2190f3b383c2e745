-- The entries of a segment, as they are found module by module.
use Rattle.std.proofs.Common.{◌≡◌, ℕ, suc, ◌+◌, ◌<◌, ◌≤◌, Bool, true, false, List, [], ◌∷◌, ◌++◌, map, length, get_or, drop, Option, Some, None, is_some, refl, sym, ap, ◌∙◌, arith, zero-add, append-nil, append_assoc}
use Rattle.std.specs.Prelude.{◌&&◌, not, if◌then◌else◌, option_map}
use Rattle.std.proofs.lemmas.List.{drop_more, length-append, length-map}
use Rattle.spl_branch.specs.declared.modules.Define.{Define}
use Rattle.spl_branch.specs.declared.modules.Want.{Want}
use Rattle.spl_branch.specs.declared.modules.Module.{Module}
use Rattle.mpe_segmenter.specs.Places.{place_of, with_place}
use Rattle.mpe_segmenter.specs.Entries.{Own, own_of, main_of, owns, is_called, called_at, either, Wanted, with_want, is_met, wants_from, all_wants, own_count, owned}
use Rattle.mpe_segmenter.specs.Entered.{IsIndex, IsEntered, total}
use Rattle.mpe_segmenter.specs.Walks.{with_defines, with_modules, with_unmet, with_wants}
use Rattle.mpe_segmenter.proofs.PartLemmas.{equal, equal_is}

-- a name that is noted has its number, unless it has one
pub place_with : (es : List (List ℕ × ℕ)) (n q : List ℕ) (k : ℕ) → place_of q (with_place es n k) ≡ either (place_of q es) (if equal q n then Some k else None)
place_with es n q k = by (place_of n es) refl where
  pushed : (es : List (List ℕ × ℕ)) → place_of q (es ++ (n, k) ∷ []) ≡ either (place_of q es) (if equal q n then Some k else None)
  pushed [] = refl
  pushed (e ∷ es) = one (equal q e.0) (pushed es) where
    one : (b : Bool) → place_of q (es ++ (n, k) ∷ []) ≡ either (place_of q es) (if equal q n then Some k else None)
        → (if b then Some e.1 else place_of q (es ++ (n, k) ∷ [])) ≡ either (if b then Some e.1 else place_of q es) (if equal q n then Some k else None)
    one true h = refl
    one false h = h

  stays : (b : Bool) (j : ℕ) → equal q n ≡ b → place_of n es ≡ Some j → place_of q es ≡ either (place_of q es) (if b then Some k else None)
  stays true j e h = let is : place_of q es ≡ Some j = ap (λ m. place_of m es) (equal_is q n e) ∙ h in rw is refl
  stays false j e h = none (place_of q es) where
    none : (o : Option ℕ) → o ≡ either o None
    none None = refl
    none (Some a) = refl

  by : (o : Option ℕ) → place_of n es ≡ o → place_of q (if is_some o then es else es ++ (n, k) ∷ []) ≡ either (place_of q es) (if equal q n then Some k else None)
  by (Some j) h = stays (equal q n) j refl h
  by None h = pushed es

-- look-ups in two lists of entries
pub called_append : (os ps : List Own) (q : List ℕ) → called_at q (os ++ ps) ≡ either (called_at q os) (option_map (λ k. length os + k) (called_at q ps))
called_append [] ps q = same (called_at q ps) where
  same : (o : Option ℕ) → o ≡ option_map (λ k. 0 + k) o
  same None = refl
  same (Some k) = ap Some (sym (zero-add k))
called_append (o ∷ os) ps q = by (is_called q o) (called_append os ps q) where
  more : (a b : Option ℕ) → option_map (λ k. 1 + k) (either a (option_map (λ k. length os + k) b)) ≡ either (option_map (λ k. 1 + k) a) (option_map (λ k. suc (length os) + k) b)
  more (Some a) b = refl
  more None None = refl
  more None (Some b) = ap Some (omega arith)

  by : (b : Bool) → called_at q (os ++ ps) ≡ either (called_at q os) (option_map (λ k. length os + k) (called_at q ps))
      → (if b then Some 0 else option_map (λ k. 1 + k) (called_at q (os ++ ps))) ≡ either (if b then Some 0 else option_map (λ k. 1 + k) (called_at q os)) (option_map (λ k. suc (length os) + k) (called_at q ps))
  by true h = refl
  by false h = ap (option_map (λ k. 1 + k)) h ∙ more (called_at q os) (called_at q ps)

-- one define more
index_define : (es : List (List ℕ × ℕ)) (os : List Own) (k base : ℕ) (d : Define) → length os ≡ k → IsIndex es os → IsIndex (if d.callable then with_place es d.name.text.items k else es) (os ++ own_of base d ∷ [])
index_define es os k base d e i = record { finds = λ q. by d.callable q ∙ sym (called_append os (own_of base d ∷ []) q) } where
  noted : (q : List ℕ) (b : Bool) → either (called_at q os) (if b then Some k else None) ≡ either (called_at q os) (option_map (λ j. length os + j) (if b then Some 0 else None))
  noted q true = ap (λ n. either (called_at q os) (Some n)) (omega (arith, e))
  noted q false = refl

  kept : (o : Option ℕ) → o ≡ either o None
  kept None = refl
  kept (Some a) = refl

  by : (b : Bool) (q : List ℕ) → place_of q (if b then with_place es d.name.text.items k else es) ≡ either (called_at q os) (option_map (λ j. length os + j) (if b && equal q d.name.text.items then Some 0 else None))
  by true q = place_with es d.name.text.items q k ∙ ap (λ o. either o (if equal q d.name.text.items then Some k else None)) (i.finds q) ∙ noted q (equal q d.name.text.items)
  by false q = i.finds q ∙ kept (called_at q os)

index_defines : (ds : List Define) (es : List (List ℕ × ℕ)) (os : List Own) (k base : ℕ) → length os ≡ k → IsIndex es os → IsIndex (with_defines es k ds) (os ++ map (own_of base) ds)
index_defines [] es os k base e i = record { finds = λ q. i.finds q ∙ ap (called_at q) (sym (append-nil os)) }
index_defines (d ∷ ds) es os k base e i =
    let rest = index_defines ds (if d.callable then with_place es d.name.text.items k else es) (os ++ own_of base d ∷ []) (k + 1) base (omega (arith, length-append os (own_of base d ∷ []), e)) (index_define es os k base d e i) in
    record { finds = λ q. rest.finds q ∙ ap (called_at q) (append_assoc os (own_of base d ∷ []) (map (own_of base) ds)) }

-- no one calls the main body
index_main : (m : Option ℕ) (es : List (List ℕ × ℕ)) (os : List Own) (base : ℕ) → IsIndex es os → IsIndex es (os ++ main_of base m)
index_main None es os base i = record { finds = λ q. i.finds q ∙ ap (called_at q) (sym (append-nil os)) }
index_main (Some offset) es os base i = record { finds = λ q. i.finds q ∙ kept (called_at q os) ∙ sym (called_append os (main_of base (Some offset)) q) } where
  kept : (o : Option ℕ) → o ≡ either o None
  kept None = refl
  kept (Some a) = refl

length-main : (m : Option ℕ) (base : ℕ) → length (main_of base m) ≡ (if is_some m then 1 else 0)
length-main None base = refl
length-main (Some offset) base = refl

index_modules : (ms : List Module) (es : List (List ℕ × ℕ)) (os : List Own) (k base : ℕ) → length os ≡ k → IsIndex es os → IsIndex (with_modules es k ms) (os ++ owns base ms)
index_modules [] es os k base e i = record { finds = λ q. i.finds q ∙ ap (called_at q) (sym (append-nil os)) }
index_modules (m ∷ ms) es os k base e i =
    let here : List Own = map (own_of base) m.defines.items in
    let behind : List Own = main_of base m.main in
    let with_own = index_main m.main (with_defines es k m.defines.items) (os ++ here) base (index_defines m.defines.items es os k base e i) in
    let size : length ((os ++ here) ++ behind) ≡ k + own_count m = omega (arith, length-append (os ++ here) behind, length-append os here, length-map m.defines.items (own_of base), length-main m.main base, e) in
    let rest = index_modules ms (with_defines es k m.defines.items) ((os ++ here) ++ behind) (k + own_count m) (base + m.size) size with_own in
    record { finds = λ q. rest.finds q ∙ ap (called_at q) (regroup os here behind (owns (base + m.size) ms)) } where
      regroup : (a b c d : List Own) → ((a ++ b) ++ c) ++ d ≡ a ++ ((b ++ c) ++ d)
      regroup a b c d = simp append_assoc

pub length-owns : (ms : List Module) (base : ℕ) → length (owns base ms) ≡ owned ms
length-owns [] base = refl
length-owns (m ∷ ms) base = omega (arith, length-append (map (own_of base) m.defines.items ++ main_of base m.main) (owns (base + m.size) ms), length-append (map (own_of base) m.defines.items) (main_of base m.main), length-map m.defines.items (own_of base), length-main m.main base, length-owns ms (base + m.size))

-- what is wanted, by the places of the procedures
wants_by : (ws : List Wanted) (called : List (List ℕ × ℕ)) (os : List Own) (vs : List Wanted) → IsIndex called os → with_wants called vs ws ≡ wants_from os vs ws
wants_by [] called os vs i = refl
wants_by (w ∷ ws) called os vs i = ap (λ us. with_wants called us ws) (ap (λ (o : Option ℕ). if not w.gate && is_some o then vs else with_want vs w) (i.finds w.name)) ∙ wants_by ws called os (if is_met os w then vs else with_want vs w) i

-- so modules have these entries
pub entered : (ms : List Module) (own : ℕ) (called : List (List ℕ × ℕ)) (wanted : List Wanted) → own ≡ owned ms → called ≡ with_modules [] 0 ms → wanted ≡ with_wants called [] (all_wants ms) → IsEntered ms own called wanted
entered ms own called wanted e c w =
    let index : IsIndex (with_modules [] 0 ms) (owns 0 ms) = index_modules ms [] [] 0 0 refl (record { finds = λ q. refl }) in
    let here : IsIndex called (owns 0 ms) = record { finds = λ q. ap (place_of q) c ∙ index.finds q } in
    record { own_count = e ∙ sym (length-owns ms 0); called_by = here; wants = w ∙ wants_by (all_wants ms) called (owns 0 ms) [] here }

-- the loops, step by step
pub defines_step : (ds : List Define) (i : ℕ) (d : Define) (es : List (List ℕ × ℕ)) (k k' : ℕ) → i < length ds → d ≡ get_or ds i d → k' ≡ k + 1 → with_defines es k (drop i ds) ≡ with_defines (if d.callable then with_place es d.name.text.items k else es) k' (drop (i + 1) ds)
defines_step ds i d es k k' lt is e = ap (with_defines es k) (drop_more ds i d lt ∙ ap (λ (x : Define). x ∷ drop (i + 1) ds) (sym is)) ∙ rw e refl

pub modules_step : (ms : List Module) (i : ℕ) (m : Module) → i < length ms → m ≡ get_or ms i m → drop i ms ≡ m ∷ drop (i + 1) ms
modules_step ms i m lt is = drop_more ms i m lt ∙ ap (λ (x : Module). x ∷ drop (i + 1) ms) (sym is)

pub wants_step : (ws : List Want) (i : ℕ) (w : Want) → i < length ws → w ≡ get_or ws i w → drop i ws ≡ w ∷ drop (i + 1) ws
wants_step ws i w lt is = drop_more ws i w lt ∙ ap (λ (x : Want). x ∷ drop (i + 1) ws) (sym is)

pub wants_append : (ws vs : List Wanted) (called : List (List ℕ × ℕ)) (us : List Wanted) → with_wants called us (ws ++ vs) ≡ with_wants called (with_wants called us ws) vs
wants_append [] vs called us = refl
wants_append (w ∷ ws) vs called us = wants_append ws vs called (with_unmet called us w)

main_most : (m : Option ℕ) → (if is_some m then 1 else 0) ≤ 1
main_most None = omega arith
main_most (Some k) = omega arith

-- there are at most as many own entries as modules and defines
pub owned_most : (ms : List Module) → owned ms ≤ total ms
owned_most [] = omega arith
owned_most (m ∷ ms) = omega (arith, owned_most ms, main_most m.main)

-- the entries so far and those of the next module are few
pub own_fits : (ms : List Module) (i : ℕ) (m : Module) (own : ℕ) → i < length ms → m ≡ get_or ms i m → own + owned (drop i ms) ≡ owned ms → total ms < 4294967296 → (own + own_count m < 4294967296) × (own + length m.defines.items < 4294967296)
own_fits ms i m own lt is e few =
    let step : owned (drop i ms) ≡ own_count m + owned (drop (i + 1) ms) = ap owned (modules_step ms i m lt is) in
    let all : own + own_count m < 4294967296 = omega (arith, step, e, few, owned_most ms) in
    (all, omega (arith, all))
