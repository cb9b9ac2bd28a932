use Rattle.s10_host.proofs.files.connect_to_ledger.Goals as goal

pub returns-in-None-clause-idle : goal.returns-in-None-clause-idle
returns-in-None-clause-idle g c = c.connect.ensures.idle

pub returns-in-None-clause-found : goal.returns-in-None-clause-found
returns-in-None-clause-found g c = c.connect.ensures.found

pub returns-in-None-clause-plain : goal.returns-in-None-clause-plain
returns-in-None-clause-plain g c = c.connect.ensures.plain
