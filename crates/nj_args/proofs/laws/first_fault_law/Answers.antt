use Rattle.nj_args.proofs.FirstFaultLaws.{first_fault-is_reported, faultless_words-are_requests}
use Rattle.nj_args.proofs.laws.first_fault_law.Goals as goal

pub returns-clause-reported : goal.returns-clause-reported
returns-clause-reported c = first_fault-is_reported

pub returns-clause-faultless : goal.returns-clause-faultless
returns-clause-faultless c = faultless_words-are_requests
