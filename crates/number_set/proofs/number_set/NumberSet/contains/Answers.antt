use Rattle.std.proofs.Common.{rules}
use Rattle.std.proofs.lemmas.List.{get_or_read}
use Rattle.number_set.proofs.Packing.{Holds, holds, held_within, held_mark}
use Rattle.number_set.proofs.number_set.NumberSet.contains.Goals as goal

pub index-requires : goal.index-requires
index-requires c =
    let s = c.self.inside in
    let h : Holds s.size s.words.items c.args.self.now =
    holds s.size s.words.items c.args.self.now c.self.invariant.same c.self.view_is in
    let within = held_within s.size s.words.items c.args.self.now c.args.number h c.requires in
    search rules

pub returns : goal.returns
returns c =
    let s = c.self.inside in
    let h : Holds s.size s.words.items c.args.self.now =
    holds s.size s.words.items c.args.self.now c.self.invariant.same c.self.view_is in
    let within = held_within s.size s.words.items c.args.self.now c.args.number h c.requires in
    held_mark s.size s.words.items c.args.self.now c.args.number c.index.result.now h c.requires
    (get_or_read s.words.items _ _ within c.index.ensures 0)
