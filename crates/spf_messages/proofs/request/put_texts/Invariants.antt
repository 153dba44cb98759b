use Rattle.std.proofs.Common.{◌≡◌, ◌++◌, take}
use Rattle.std.specs.List.{flat_map}
use Rattle.spf_messages.specs.Wire.{field_text}
use Rattle.spf_messages.proofs.request.put_texts.Given as goal

abbrev pub invariant-loop-text : goal.invariant-loop-text
invariant-loop-text l =
    l.out.items ≡ l.initial.out.items ++ flat_map (field_text l.number) (take l.text-index l.texts)
