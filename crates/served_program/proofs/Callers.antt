-- What the crates above may cite of these proofs: laws, and sets of laws for `using`.
pub use Rattle.served_program.proofs.ServedLaws.{is_served_tblock_out, is_served_tstmt_out, is_served_block_out, is_served_stmt_out, tstmts_served, tstmt_served_at}
pub use Rattle.served_program.proofs.ActionLaws.{served_action}
use Rattle.served_program.proofs.ServedLaws.{passes_at, stmts_served, stmt_served_at}
use Rattle.served_program.proofs.DeclarationLaws.{served_one_start, served_no_queues, served_no_semaphores, served_one_field, served_no_parameters}
use Rattle.served_program.proofs.ActionLaws.{arrives_served, served_no_loops}

-- an `atomic` block and its statements by layers, as equations
pub ruleset transaction_laws = (is_served_tblock_out, is_served_tstmt_out)

-- a body and its statements by layers, as equations
pub ruleset body_laws = (is_served_block_out, is_served_stmt_out)

-- the statements of a served `atomic` block, and the one at a place
pub ruleset served_transaction_laws = (tstmts_served, tstmt_served_at)

-- the statements of a served body, and the one at a place
pub ruleset served_body_laws = (stmts_served, stmt_served_at)

-- what stands at a place of a list that passes a test, as an expression of a `give`
pub ruleset place_laws = (passes_at)

-- what a served program declares
pub ruleset declaration_laws = (served_one_start, served_no_queues, served_no_semaphores, served_no_loops, served_one_field, served_no_parameters)

-- where a thread of a served program arrives
pub ruleset arrival_laws = (arrives_served)
