use Rattle.std.proofs.Common.{◌≡◌, drop}
use Rattle.serde_json.specs.View.{members_view}
use Rattle.json_values.specs.Walk.{onto}
use Rattle.json_values.specs.File.{ports_words}
use Rattle.json_values.proofs.file.ports_words.Given as goal

abbrev pub invariant-loop-port : goal.invariant-loop-port
invariant-loop-port l = onto l.words.items (ports_words l.role (drop l.port-index l.ports) (members_view l.members.entries)) ≡ onto l.fn.words.items (ports_words l.role l.ports (members_view l.members.entries))
