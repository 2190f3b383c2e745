-- The names of defines, one by one.
use Rattle.std.proofs.Common.{◌≡◌, ℕ, ◌+◌, ◌<◌, Bool, true, false, if◌then◌else◌, List, [], ◌∷◌, ◌++◌, length, get_or, drop, refl, sym, ap, ◌∙◌, append_assoc}
use Rattle.std.proofs.lemmas.List.{drop_more}
use Rattle.spl_branch.specs.declared.modules.Define.{Define}
use Rattle.spl_branch.specs.declared.modules.Module.{Module}
use Rattle.mpe_segmenter.specs.Faults.{define_names, callables}

names_one : (d : Define) (ds : List Define) → define_names (d ∷ ds) ≡ define_names (d ∷ []) ++ define_names ds
names_one d ds = go d.callable where
  go : (b : Bool) → (if b then d.name.text.items ∷ define_names ds else define_names ds) ≡ (if b then d.name.text.items ∷ [] else []) ++ define_names ds
  go true = refl
  go false = refl

-- the define at an index is the first of those left
pub names_front : (ds : List Define) (i : ℕ) (d : Define) (rest : List (List ℕ)) → i < length ds → d ≡ get_or ds i d → define_names (drop i ds) ++ rest ≡ define_names (d ∷ []) ++ (define_names (drop (i + 1) ds) ++ rest)
names_front ds i d rest lt is =
    ap (λ (xs : List Define). define_names xs ++ rest) (drop_more ds i d lt ∙ ap (λ (x : Define). x ∷ drop (i + 1) ds) (sym is))
    ∙ ap (λ (ns : List (List ℕ)). ns ++ rest) (names_one d (drop (i + 1) ds))
    ∙ append_assoc (define_names (d ∷ [])) (define_names (drop (i + 1) ds)) rest

pub callables_front : (ms : List Module) (i : ℕ) (m : Module) → i < length ms → m ≡ get_or ms i m → callables (drop i ms) ≡ define_names m.defines.items ++ callables (drop (i + 1) ms)
callables_front ms i m lt is = ap callables (drop_more ms i m lt ∙ ap (λ (x : Module). x ∷ drop (i + 1) ms) (sym is))
