-- The scopes of bodies, through levels that are known.
use Rattle.std.proofs.Common.{◌≡◌, Some, ap, sym, ◌∙◌}
use Rattle.spl_scopes.specs.spl_code.Calls.{Scope}
use Rattle.spl_body_scopes.specs.Levels.{Level, scope_through}
use Rattle.spl_body_scopes.specs.Found.{Calls, ShowsRoutine, ShowsInner, ShowsMain, ShowsMainInner}
use Rattle.spl_body_scopes.proofs.ScopeLaws.{routine_scope, inner_scope, main_scope, main_inner_scope}

-- what three levels show
abbrev pub shown_through : Level → Level → Level → Calls → Scope
shown_through a b c calls = scope_through a b c calls.procedures calls.subroutines

shown_same : (a b c k l m : Level) (f g : Calls) → a ≡ k → b ≡ l → c ≡ m → f ≡ g → shown_through k l m g ≡ shown_through a b c f
shown_same a b c k l m f g first second third calls i = shown_through (sym first i) (sym second i) (sym third i) (sym calls i)

pub shows_routine : (a b c : Level) (calls : Calls) → ShowsRoutine a b c calls (shown_through a b c calls)
shows_routine a b c calls p s here h items ss ds left is first second third entries =
    routine_scope p s here h items ss ds left is ∙ ap Some (shown_same a b c _ _ _ calls _ first second third entries)

pub shows_inner : (a b c : Level) (calls : Calls) → ShowsInner a b c calls (shown_through a b c calls)
shows_inner a b c calls p s here h items ss ds j sub left is at first second third entries =
    inner_scope p s here h items ss ds j sub left is at ∙ ap Some (shown_same a b c _ _ _ calls _ first second third entries)

pub shows_main : (a b c : Level) (calls : Calls) → ShowsMain a b c calls (shown_through a b c calls)
shows_main a b c calls p s left is first second third entries =
    main_scope p s left is ∙ ap Some (shown_same a b c _ _ _ calls _ first second third entries)

pub shows_main_inner : (a b c : Level) (calls : Calls) → ShowsMainInner a b c calls (shown_through a b c calls)
shows_main_inner a b c calls p s j sub left is at first second third entries =
    main_inner_scope p s j sub left is at ∙ ap Some (shown_same a b c _ _ _ calls _ first second third entries)
