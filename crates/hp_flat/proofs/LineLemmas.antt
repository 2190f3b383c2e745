-- Lines copied one by one.
use Rattle.std.proofs.Common.{◌≡◌, ℕ, ◌+◌, ◌<◌, List, [], ◌∷◌, ◌++◌, length, get_or, take, sym, ap, ◌∙◌}
use Rattle.std.proofs.lemmas.List.{map_more, map-append}
use Rattle.hp_session.specs.declared.terminal.Line.{Line}
use Rattle.hp_session.specs.SessionView.{lines_of}

-- the lines up to the next one
pub lines_more : (xs : List Line) (i : ℕ) (x : Line) → i < length xs → x ≡ get_or xs i x → lines_of (take (i + 1) xs) ≡ lines_of (take i xs) ++ x.bytes.items ∷ []
lines_more xs i x lt is = map_more (λ l. l.bytes.items) xs i x lt ∙ ap (λ l. lines_of (take i xs) ++ l.bytes.items ∷ []) (sym is)

-- one line more
pub lines_push : (xs : List Line) (x : Line) → lines_of (xs ++ x ∷ []) ≡ lines_of xs ++ x.bytes.items ∷ []
lines_push xs x = map-append (λ l. l.bytes.items) xs (x ∷ [])

pub ruleset line_steps = (lines_more, lines_push)
