-- A course from words that are kept, from a blank device, and event by event; words under way and live kernels.
use Rattle.kernel_model.specs.Run.{initial}
use Rattle.kernel_boots.proofs.CourseLaws.{uncut-start, uncut-next, uncut-events, last-start, kept-under_way, rest-counts, rest-under_way, recovered-counts, recovered-live, lost-counts, lost-under_way}
use Rattle.kernel_boots.proofs.blank.beginning.Goals as goal

pub returns : goal.returns
returns c =
    let counted = c.soundness.ensures.run_counted in
    let laws = c.standing_laws.ensures in
    record {
      kept = kept-under_way laws.kept_events;
      blank = λ p events words zero. kept-under_way laws.kept_events p (initial p) events words (c.formatting_stands.ensures.blank p words zero);
      start = uncut-start;
      all = last-start;
      next = uncut-next;
      counts = uncut-events counted;
      recovered = recovered-live counted;
      recovered_counts = recovered-counts counted;
      lost = λ on. lost-under_way counted on laws.kept_events;
      lost_counts = λ on. lost-counts counted on laws.kept_events;
      at_rest = λ on. rest-under_way counted on laws.kept laws.kept_events;
      at_rest_counts = λ on. rest-counts counted on laws.kept laws.kept_events;
    }
