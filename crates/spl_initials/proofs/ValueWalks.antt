-- Loops over initial values, items and declarations: what is put from one on.
use Rattle.std.proofs.Common.{◌≡◌, ◌<◌, ◌≤◌, ℕ, ◌+◌, List, map, drop, length, get_or, Option, ap, sym, ◌∙◌, add-one}
use Rattle.spl_tree.specs.declared.expressions.Kind.{Kind}
use Rattle.spl_tree.specs.declared.expressions.Const.{Const}
use Rattle.spl_tree.specs.Views.{constant}
use Rattle.spl_sorts.specs.spl_meaning.Names.{Names, constant_or_zero}
use Rattle.spl_sorts.specs.spl_meaning.Places.{put_value, put_values}
use Rattle.spl_places.proofs.spl_lists_proofs.NameWalks.{onward, onward_end}

pub constant_step : (names : Names) (k : Kind) (a : ℕ) (list : List Const) (i : ℕ) (x : Const) (mem : ℕ → Option ℕ) → i < length list → x ≡ get_or list i x
    → put_values k a i (map (constant_or_zero names) (map constant (drop i list))) mem
    ≡ put_values k a (i + 1) (map (constant_or_zero names) (map constant (drop (i + 1) list))) (put_value k a i (constant_or_zero names (constant x)) mem)
constant_step names k a list i x mem lt is =
    onward constant (λ xs. put_values k a i (map (constant_or_zero names) xs) mem) list i x lt is
    ∙ ap (λ (j : ℕ). put_values k a j (map (constant_or_zero names) (map constant (drop (i + 1) list))) (put_value k a i (constant_or_zero names (constant x)) mem)) (sym (add-one i))

pub constant_end : (names : Names) (k : Kind) (a : ℕ) (list : List Const) (i : ℕ) (mem : ℕ → Option ℕ) → length list ≤ i
    → put_values k a i (map (constant_or_zero names) (map constant (drop i list))) mem ≡ mem
constant_end names k a list i mem le = onward_end constant (λ xs. put_values k a i (map (constant_or_zero names) xs) mem) list i le
