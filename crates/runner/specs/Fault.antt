-- The number, the line and the text of a drill's fault.
use Rattle.std.specs.Prelude.{ℕ, List, ◌∷◌, ◌++◌, codes, decimal}
use Rattle.register.specs.Fault as register
use Rattle.sheet.specs.Fault.{shown}
use Rattle.runner.specs.declared.fault.DrillFault.{DrillFault}
use Rattle.runner.specs.declared.fault.DrillFault.TheVariants.{Sheet, Register}

abbrev pub fault_number : DrillFault → ℕ
fault_number (Sheet f) = (shown f).number
fault_number (Register f) = register.fault_number f

-- the sheet's line; 2 for the register and the channel
abbrev pub fault_line : DrillFault → ℕ
fault_line (Sheet f) = (shown f).line
fault_line (Register f) = 2

-- what is printed of it, without a line end
abbrev pub fault_text : DrillFault → List ℕ
fault_text f = codes "fault " ++ decimal (fault_number f) ++ 32 ∷ decimal (fault_line f)
