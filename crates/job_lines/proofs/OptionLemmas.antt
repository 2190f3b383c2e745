-- Options, one by one.
use Rattle.std.proofs.Common.{◌≡◌, ℕ, zero, suc, arith, ◌+◌, ◌<◌, ◌≤◌, List, [], ◌∷◌, length, get_or, drop, map, None, Some, refl, ap, ◌∙◌}
use Rattle.std.specs.Prelude.{option_and_then}
use Rattle.std.specs.Borrow.{Bor}
use Rattle.job_lines.specs.declared.sizes.Sizes.{Sizes}
use Rattle.job_lines.specs.Sizes.{option, options}
use Rattle.job_lines.proofs.ListLemmas.{fronted, dropped}

turn : (w : List ℕ) (ws : List (List ℕ)) (sizes : Sizes) → options sizes (w ∷ ws) ≡ option_and_then (λ more. options more ws) (option w sizes)
unfolding options
turn w ws sizes = refl

at_word : (ws : List (Bor (List ℕ))) (i : ℕ) (w : Bor (List ℕ)) (sizes : Sizes) → i < length ws → w ≡ get_or ws i w
    → options sizes (map (λ x. x.now) (drop i ws)) ≡ option_and_then (λ more. options more (map (λ x. x.now) (drop (i + 1) ws))) (option w.now sizes)
at_word ws i w sizes l e =
    ap (λ (xs : List (Bor (List ℕ))). options sizes (map (λ x. x.now) xs)) (fronted ws i w l e) ∙ turn w.now (map (λ (x : Bor (List ℕ)). x.now) (drop (i + 1) ws)) sizes

-- an option that is taken leads on
pub option_taken : (ws : List (Bor (List ℕ))) (i : ℕ) (w : Bor (List ℕ)) (sizes more : Sizes) → i < length ws → w ≡ get_or ws i w → option w.now sizes ≡ Some more
    → options sizes (map (λ x. x.now) (drop i ws)) ≡ options more (map (λ x. x.now) (drop (i + 1) ws))
option_taken ws i w sizes more l e t =
    at_word ws i w sizes l e ∙ ap (option_and_then (λ more. options more (map (λ (x : Bor (List ℕ)). x.now) (drop (i + 1) ws)))) t

-- one that is none ends all
pub option_wrong : (ws : List (Bor (List ℕ))) (i : ℕ) (w : Bor (List ℕ)) (sizes : Sizes) → i < length ws → w ≡ get_or ws i w → option w.now sizes ≡ None
    → options sizes (map (λ x. x.now) (drop i ws)) ≡ None
option_wrong ws i w sizes l e t =
    at_word ws i w sizes l e ∙ ap (option_and_then (λ more. options more (map (λ (x : Bor (List ℕ)). x.now) (drop (i + 1) ws)))) t

no_more : (sizes : Sizes) → options sizes [] ≡ Some sizes
unfolding options
no_more sizes = refl

pub options_end : (ws : List (Bor (List ℕ))) (i : ℕ) (sizes : Sizes) → length ws ≤ i → options sizes (map (λ x. x.now) (drop i ws)) ≡ Some sizes
options_end ws i sizes l = ap (λ (xs : List (Bor (List ℕ))). options sizes (map (λ x. x.now) xs)) (dropped ws i l) ∙ no_more sizes

pub ruleset options_turns = (option_taken, option_wrong, options_end)

-- the item at an index is there whatever would stand past the end
pub any_item : {X : Type 0} (xs : List X) (i : ℕ) (d : X) → i < length xs → get_or xs i d ≡ get_or xs i (get_or xs i d)
any_item [] i d h = absurd (omega arith)
any_item (x ∷ xs) zero d h = refl
any_item (x ∷ xs) (suc i) d h = any_item xs i d (omega arith)
