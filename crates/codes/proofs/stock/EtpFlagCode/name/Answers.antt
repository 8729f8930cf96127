-- `<EtpFlag as Code>::name` meets its contract.
use Rattle.codes.specs.declared.stock.EtpFlag.TheVariants as EtpFlag·
use Rattle.codes.specs.Names.{etp_flag_byte, etp_flag_names, etp_flag_from}
use Rattle.codes.proofs.Match.{last_name}
use Rattle.codes.proofs.stock.EtpFlagCode.name.Goals as goal

pub returns-in-89 : goal.returns-in-89
unfolding etp_flag_from
returns-in-89 c = rw c.in-89.is

pub returns-in-78 : goal.returns-in-78
unfolding etp_flag_from
returns-in-78 c = rw c.in-78.is

pub returns-in-77 : goal.returns-in-77
unfolding etp_flag_from
returns-in-77 c = rw c.in-77.is

pub returns-in_default : goal.returns-in_default
unfolding etp_flag_from
returns-in_default c = last_name etp_flag_byte etp_flag_names EtpFlag·.Absent _ c.in_default.in_default-own.rest
