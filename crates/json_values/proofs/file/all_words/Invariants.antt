use Rattle.std.proofs.Common.{◌≡◌, drop}
use Rattle.serde_json.specs.View.{members_view}
use Rattle.json_values.specs.Walk.{onto}
use Rattle.json_values.specs.File.{all_words}
use Rattle.json_values.proofs.file.all_words.Given as goal

abbrev pub invariant-loop-port : goal.invariant-loop-port
invariant-loop-port l = onto l.words.items (all_words (drop l.port-index l.ports) (members_view l.a.entries) (members_view l.b.entries)) ≡ onto l.fn.words.items (all_words l.ports (members_view l.a.entries) (members_view l.b.entries))
