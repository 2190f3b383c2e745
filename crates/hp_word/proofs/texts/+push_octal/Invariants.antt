use Rattle.hp_word.proofs.texts.+push_octal.Given as goal

-- one digit less at each call
abbrev pub decreases-push_octal : goal.decreases-push_octal
decreases-push_octal l = l.digits
