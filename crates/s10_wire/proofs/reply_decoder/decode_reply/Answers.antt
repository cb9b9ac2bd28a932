use Rattle.s10_wire.proofs.Replied.{replied_is_read, refused_replies_nothing}
use Rattle.s10_wire.proofs.reply_decoder.decode_reply.Goals as goal

pub returns-clause-replied : goal.returns-clause-replied
returns-clause-replied c = replied_is_read c.args.bytes.now c.reply_of.result
    c.reply_of.ensures.found c.reply_of.ensures.refused

pub returns-clause-nothing : goal.returns-clause-nothing
returns-clause-nothing c = refused_replies_nothing c.args.bytes.now c.reply_of.result
    c.reply_of.ensures.refused
