-- Tokens listed in the place of a use, one by one.
use Rattle.std.proofs.Common.{◌≡◌, ℕ, ◌+◌, ◌<◌, List, [], ◌∷◌, ◌++◌, length, get_or, take, map, refl, sym, ap, ◌∙◌, append_assoc}
use Rattle.std.proofs.lemmas.List.{map_more}
use Rattle.spl_tree.specs.declared.tokens.What.{What}
use Rattle.spl_cuts.specs.Signs.{Sign, Found}
use Rattle.spl_cuts.specs.Defines.{at_use}
use Rattle.spl_cuts.specs.Cutting.{with_name, with_names}
use Rattle.spl_cuts.proofs.FewSegments.{with_behind, with_again}
use Rattle.spl_pieces.specs.SignViews.{sign_of}

at_use-append : (t : Found) (xs ys : List Sign) → at_use t (xs ++ ys) ≡ at_use t xs ++ at_use t ys
at_use-append t [] ys = refl
at_use-append t (x ∷ xs) ys = ap (λ (fs : List Found). record t { what = x } ∷ fs) (at_use-append t xs ys)

-- one token more
pub use_more : (t : Found) (fs : List Found) (ws : List What) (i : ℕ) (w : What) → i < length ws
    → (fs ++ at_use t (map sign_of (take i ws))) ++ record t { what = sign_of (get_or ws i w) } ∷ [] ≡ fs ++ at_use t (map sign_of (take (i + 1) ws))
use_more t fs ws i w l =
    append_assoc fs (at_use t (map sign_of (take i ws))) (record t { what = sign_of (get_or ws i w) } ∷ [])
    ∙ ap (λ (us : List Found). fs ++ us)
    (sym (ap (at_use t) (map_more sign_of ws i w l) ∙ at_use-append t (map sign_of (take i ws)) (sign_of (get_or ws i w) ∷ [])))

-- a token of a segment adds no other segment
pub no_more_names : (fs : List Found) (f : Found)
    → with_name (with_names [] (fs ++ f ∷ [])) f.segment ≡ with_name (with_names [] fs) f.segment
no_more_names fs f = ap (λ (ms : List (List ℕ)). with_name ms f.segment) (with_behind [] fs (f ∷ []))
    ∙ with_again (with_names [] fs) f.segment
