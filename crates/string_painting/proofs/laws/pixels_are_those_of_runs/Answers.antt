use Rattle.string_painting.proofs.Written.{codes_laid, codes_elsewhere, pixels_counted}
use Rattle.string_painting.proofs.laws.pixels_are_those_of_runs.Goals as goal

pub returns-clause-here : goal.returns-clause-here
returns-clause-here c = λ brush table before listing first_row column codes x old in_force.
    codes_laid brush table before in_force listing first_row column codes x old

pub returns-clause-elsewhere : goal.returns-clause-elsewhere
returns-clause-elsewhere c = λ brush before listing first_row column codes x y differs.
    codes_elsewhere brush before listing first_row column codes x y differs

pub returns-clause-column : goal.returns-clause-column
returns-clause-column c = λ depth codes. pixels_counted depth codes
