-- Machines that stand in one segment, or both in whole mode: in split mode no procedure is called or left.
use Rattle.std.specs.Prelude.{◌≡◌, ◌⊎◌, false, MatchResult, ⊤}
use Rattle.spl_follow.specs.hp_session.State.{Machine, Outcome}

abbrev pub IsNear : Machine → Machine → Type 0
IsNear m n = (n.regs.seg ≡ m.regs.seg) ⊎ ((m.split ≡ false) × (n.split ≡ false))

-- what a row leaves is near, if it does not trap
abbrev pub StaysNear : Machine → Outcome → Type 0
StaysNear m outcome = MatchResult outcome (λ n. IsNear m n) (λ _. ⊤)
