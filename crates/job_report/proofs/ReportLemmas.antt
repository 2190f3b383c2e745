-- Sessions are told one behind the other.
use Rattle.std.proofs.Common.{◌≡◌, ℕ, ◌+◌, ◌<◌, ◌≤◌, Bool, List, ◌++◌, length, get_or, drop, map, sym, ap, ◌∙◌, append_assoc, append-nil}
use Rattle.job_report.specs.declared.point.Point.{Point}
use Rattle.job_report.specs.Reports.{reported, session_text, sessions_text}
use Rattle.job_report.proofs.LineLemmas.{fronted, dropped}

-- one session more
pub session_on : (before : List ℕ) (statistics : Bool) (ps : List Point) (i n : ℕ) (p : Point) → i < length ps → p ≡ get_or ps i p
    → before ++ sessions_text statistics n (map reported (drop i ps))
    ≡ (before ++ session_text statistics n (reported p)) ++ sessions_text statistics (n + 1) (map reported (drop (i + 1) ps))
session_on before statistics ps i n p l e =
    ap (λ x. before ++ sessions_text statistics n (map reported x)) (fronted ps i p l e)
    ∙ sym (append_assoc before (session_text statistics n (reported p)) (sessions_text statistics (n + 1) (map reported (drop (i + 1) ps))))

pub session_end : (before : List ℕ) (statistics : Bool) (ps : List Point) (i n : ℕ) → length ps ≤ i
    → before ++ sessions_text statistics n (map reported (drop i ps)) ≡ before
session_end before statistics ps i n l =
    ap (λ x. before ++ sessions_text statistics n (map reported x)) (dropped ps i l) ∙ append-nil before

pub ruleset session_turns = (session_on, session_end)
