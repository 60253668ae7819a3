use Rattle.panel_routes.proofs.Laws.{letters_passed, letters_stopped}
use Rattle.panel_routes.proofs.panel_routes_check_letters.Goals as goal

pub returns-in-Ok : goal.returns-in-Ok
returns-in-Ok c = letters_passed _ _ c.in-Ok.ensures

pub returns-in-Err : goal.returns-in-Err
returns-in-Err c = letters_stopped _ _ _ _ c.number.ensures c.in-Err.ensures
