use Rattle.replay_core.proofs.Ends.{done_lines, done_same, full_same, whole_same}
use Rattle.replay_core.proofs.decided.texts_determine_runs.Goals as goal

pub returns-clause-lines : goal.returns-clause-lines
returns-clause-lines c = done_lines (record {
  rows = record {
    none = c.digits_begin_entries.ensures.none;
    more = c.digits_begin_entries.ensures.more;
    entries = c.digits_begin_entries.ensures.entries;
    lines = c.lines_of_more.ensures;
    kubelet = c.digits_begin_entries.ensures.kubelet;
  };
  same = c.digits_begin_entries.ensures.same;
  summary = c.digits_begin_entries.ensures.summary;
  by_commands = c.runs_are_numbered.ensures.by_commands;
  jobs = c.runs_are_numbered.ensures.jobs;
  part = c.runs_are_numbered.ensures.part;
  part_jobs = c.runs_are_numbered.ensures.part_jobs;
  whole = c.texts_determine_histories.ensures.lines;
})

pub returns-clause-commands : goal.returns-clause-commands
returns-clause-commands c = done_same (record {
  rows = record {
    none = c.digits_begin_entries.ensures.none;
    more = c.digits_begin_entries.ensures.more;
    entries = c.digits_begin_entries.ensures.entries;
    lines = c.lines_of_more.ensures;
    kubelet = c.digits_begin_entries.ensures.kubelet;
  };
  same = c.digits_begin_entries.ensures.same;
  summary = c.digits_begin_entries.ensures.summary;
  by_commands = c.runs_are_numbered.ensures.by_commands;
  jobs = c.runs_are_numbered.ensures.jobs;
  part = c.runs_are_numbered.ensures.part;
  part_jobs = c.runs_are_numbered.ensures.part_jobs;
  whole = c.texts_determine_histories.ensures.lines;
})

pub returns-clause-script : goal.returns-clause-script
returns-clause-script c = whole_same (record {
  rows = record {
    none = c.digits_begin_entries.ensures.none;
    more = c.digits_begin_entries.ensures.more;
    entries = c.digits_begin_entries.ensures.entries;
    lines = c.lines_of_more.ensures;
    kubelet = c.digits_begin_entries.ensures.kubelet;
  };
  same = c.digits_begin_entries.ensures.same;
  summary = c.digits_begin_entries.ensures.summary;
  by_commands = c.runs_are_numbered.ensures.by_commands;
  jobs = c.runs_are_numbered.ensures.jobs;
  part = c.runs_are_numbered.ensures.part;
  part_jobs = c.runs_are_numbered.ensures.part_jobs;
  whole = c.texts_determine_histories.ensures.lines;
})

pub returns-clause-full : goal.returns-clause-full
returns-clause-full c = full_same (record {
  rows = record {
    none = c.digits_begin_entries.ensures.none;
    more = c.digits_begin_entries.ensures.more;
    entries = c.digits_begin_entries.ensures.entries;
    lines = c.lines_of_more.ensures;
    kubelet = c.digits_begin_entries.ensures.kubelet;
  };
  same = c.digits_begin_entries.ensures.same;
  summary = c.digits_begin_entries.ensures.summary;
  by_commands = c.runs_are_numbered.ensures.by_commands;
  jobs = c.runs_are_numbered.ensures.jobs;
  part = c.runs_are_numbered.ensures.part;
  part_jobs = c.runs_are_numbered.ensures.part_jobs;
  whole = c.texts_determine_histories.ensures.lines;
})
