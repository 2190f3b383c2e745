-- A loop over statements: the labels from one of them on.
use Rattle.std.proofs.Common.{◌≡◌, ◌<◌, ◌≤◌, ℕ, ◌+◌, List, ◌++◌, map, drop, length, get_or, append_assoc, sym, ap, ◌∙◌}
use Rattle.std.proofs.lemmas.List.{append-nil}
use Rattle.spl_tree.specs.declared.statements.Stmt.{Stmt}
use Rattle.spl_tree.specs.Views as view
use Rattle.spl_tree.specs.StatementTrees.{statements}
use Rattle.spl_module_code.specs.LabelsOfBodies.{Label, labels_in, labels_among}
use Rattle.spl_spots.proofs.ListWalks.{onward, onward_end}

pub label_step : (k : ℕ) (list : List Stmt) (i : ℕ) (s : Stmt) (xs : List Label) → i < length list → s ≡ get_or list i s
    → xs ++ labels_among (statements (map view.statement (drop i list))) k
    ≡ (xs ++ labels_in (view.statement s) k) ++ labels_among (statements (map view.statement (drop (i + 1) list))) k
label_step k list i s xs lt is =
    ap (λ ys. xs ++ ys) (onward view.statement (λ ss. labels_among (statements ss) k) list i s lt is)
    ∙ sym (append_assoc xs (labels_in (view.statement s) k) (labels_among (statements (map view.statement (drop (i + 1) list))) k))

pub label_end : (k : ℕ) (list : List Stmt) (i : ℕ) (xs : List Label) → length list ≤ i
    → xs ++ labels_among (statements (map view.statement (drop i list))) k ≡ xs
label_end k list i xs le =
    ap (λ ys. xs ++ ys) (onward_end view.statement (λ ss. labels_among (statements ss) k) list i le) ∙ append-nil xs

pub ruleset walks = (label_step, label_end)
