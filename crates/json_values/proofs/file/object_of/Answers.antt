use Rattle.std.proofs.Common.{option_and_then, sym, ap, ◌∙◌}
use Rattle.serde_json.specs.Read.{read}
use Rattle.serde_json.specs.Find.{as_object}
use Rattle.serde_json.specs.View.{view}
use Rattle.serde_json.proofs.Views.{view-Object}
use Rattle.json_values.proofs.Readings.{members_of_a_text}
use Rattle.json_values.proofs.file.object_of.Goals as goal

pub returns-in-Object : goal.returns-in-Object
returns-in-Object c =
    members_of_a_text c.args.text.now c.in-Ok.ensures.cases.1
    ∙ ap (option_and_then as_object) (ap read (sym c.in-Ok.ensures.cases.0) ∙ c.in-Ok-from_str.ensures.ok)
    ∙ ap (λ v. as_object (view v)) c.in-Object.is
    ∙ ap as_object (view-Object c.in-Object.members)
