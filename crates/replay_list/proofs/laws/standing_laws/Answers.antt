use Rattle.replay_list.proofs.BothLaws.{both_length, both_set}
use Rattle.replay_list.proofs.ShownLaws.{shows_parts}
use Rattle.replay_list.proofs.LifeLaws.{life_more, life_kept, agrees_recorded, agrees_ended}
use Rattle.replay_list.proofs.CountLaws.{counts_records}
use Rattle.replay_list.proofs.RowLaws.{row_live, context_live, context_served, context_ended, records_live}
use Rattle.replay_list.proofs.KeptLaws.{kept_at_rest, kept_durable, kept_counter}
use Rattle.replay_list.proofs.StrictLaws.{few_values, past_stamp, known_states, known_waits, has_headers}
use Rattle.replay_list.proofs.ZeroLaws.{unread_zero}
use Rattle.kernel_model.specs.Relived.{record_of}
use Rattle.replay_list.specs.Records.{start_in}
use Rattle.replay_list.specs.Stands.{IsRow}
use Rattle.replay_list.proofs.laws.standing_laws.Goals as goal

pub returns-clause-shows : goal.returns-clause-shows
returns-clause-shows c = shows_parts

pub returns-clause-row : goal.returns-clause-row
returns-clause-row c p d K = row_live p d.rows K.rows

pub returns-clause-row_put : goal.returns-clause-row_put
returns-clause-row_put c p = both_set (IsRow p)

pub returns-clause-rows_many : goal.returns-clause-rows_many
returns-clause-rows_many c p = both_length (IsRow p)

pub returns-clause-context : goal.returns-clause-context
returns-clause-context c p contexts K t thread both e = let law = context_live p contexts K.rows t thread both e in (law.ctx, law.is, law.context)

pub returns-clause-context_put : goal.returns-clause-context_put
returns-clause-context_put c = context_served

pub returns-clause-context_left : goal.returns-clause-context_left
returns-clause-context_left c = context_ended

pub returns-clause-served : goal.returns-clause-served
returns-clause-served c p old new thread s action results life more ready at is recorded many =
    life_more p old new thread _ (record_of action results) life more (c.replay.ensures.served p (start_in old) life.records thread life.relived s action results ready at is recorded many)

pub returns-clause-finished : goal.returns-clause-finished
returns-clause-finished c p old new thread action results life more unfinished next recorded many =
    life_more p old new thread _ (record_of action results) life more (c.replay.ensures.finished p (start_in old) life.records thread life.relived action results unfinished next recorded many)

pub returns-clause-opened : goal.returns-clause-opened
returns-clause-opened c p row thread s activity life ready at unfinished = record {
  records = life.records;
  words = life.words;
  relived = c.replay.ensures.opened p (start_in row) life.records thread life.relived s activity ready at unfinished;
  used = life.used;
  few = life.few;
}

pub returns-clause-life_kept : goal.returns-clause-life_kept
returns-clause-life_kept c = life_kept

pub returns-clause-agrees : goal.returns-clause-agrees
returns-clause-agrees c = agrees_recorded

pub returns-clause-ended : goal.returns-clause-ended
returns-clause-ended c = agrees_ended

pub returns-clause-counts : goal.returns-clause-counts
returns-clause-counts c p row thread life = let law = counts_records p row thread life in (life.records, life.words, law.0, law.1)

pub returns-clause-kept : goal.returns-clause-kept
returns-clause-kept c = kept_at_rest

pub returns-clause-kept_undone : goal.returns-clause-kept_undone
returns-clause-kept_undone c = kept_durable

pub returns-clause-kept_events : goal.returns-clause-kept_events
returns-clause-kept_events c = kept_counter

pub returns-clause-counted : goal.returns-clause-counted
returns-clause-counted c = records_live

pub returns-clause-few : goal.returns-clause-few
returns-clause-few c = few_values

pub returns-clause-past : goal.returns-clause-past
returns-clause-past c = past_stamp

pub returns-clause-states : goal.returns-clause-states
returns-clause-states c = known_states

pub returns-clause-headers : goal.returns-clause-headers
returns-clause-headers c = has_headers

pub returns-clause-waits : goal.returns-clause-waits
returns-clause-waits c = known_waits

pub returns-clause-unread : goal.returns-clause-unread
returns-clause-unread c = unread_zero
