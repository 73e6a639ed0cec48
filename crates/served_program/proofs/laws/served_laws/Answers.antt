-- What a served program gives.
use Rattle.served_program.proofs.DeclarationLaws.{served_one_start, served_no_queues, served_no_semaphores, served_one_field, served_no_parameters}
use Rattle.served_program.proofs.ActionLaws.{served_action, arrives_served, served_no_loops}
use Rattle.served_program.proofs.laws.served_laws.Goals as goal

pub returns-clause-acts : goal.returns-clause-acts
returns-clause-acts c = served_action

pub returns-clause-arrives : goal.returns-clause-arrives
returns-clause-arrives c = arrives_served

pub returns-clause-one_start : goal.returns-clause-one_start
returns-clause-one_start c = served_one_start

pub returns-clause-no_queues : goal.returns-clause-no_queues
returns-clause-no_queues c = served_no_queues

pub returns-clause-no_semaphores : goal.returns-clause-no_semaphores
returns-clause-no_semaphores c = served_no_semaphores

pub returns-clause-no_loops : goal.returns-clause-no_loops
returns-clause-no_loops c = served_no_loops

pub returns-clause-one_field : goal.returns-clause-one_field
returns-clause-one_field c = served_one_field

pub returns-clause-no_parameters : goal.returns-clause-no_parameters
returns-clause-no_parameters c = served_no_parameters
