-- The names of crates below that this crate cites, passed on from one place.
pub use Rattle.tac_base.specs.declared.limits.TheConstants.{AGENTS, TEXT_BYTES}
unfoldable pub use Rattle.tac_base.specs.Numerals.{numeral, signed_numeral}
pub use Rattle.text_forms.specs.Lines.{NumberedLine, Remaining, at_line, block_in, block_of, due_of, first_number, is_comment, lines_from, nothing_left, reason_number, text_of}
unfoldable pub use Rattle.text_forms.specs.Rows.{row}
pub use Rattle.text_forms.specs.Steps.{read_by, ◌>>=◌}
unfoldable pub use Rattle.text_forms.specs.Steps.{repeat}
pub use Rattle.text_forms.specs.Words.{parts_of, words_of}
pub use Rattle.text_forms.specs.declared.lines.BadLine.{BadLine}
pub use Rattle.text_forms.specs.declared.lines.Reason.{Reason}
pub use Rattle.text_forms.specs.declared.lines.Reason.TheVariants.{Spelling, TextEnd}
pub use Rattle.line_protocol.specs.Heads.{Play, Serve}
pub use Rattle.game_text.specs.Accounts.{AccountFile, IsAccount, IsAccountText, account_lines, owned_part}
unfoldable pub use Rattle.game_text.specs.Accounts.{account_in, account_of, hold_of, owned_of, title_of}
pub use Rattle.game_text.specs.Faults.{or_game_fault}
pub use Rattle.game_text.specs.Games.{GameFile, IsGame, IsTextOf, flight_part, game_lines}
unfoldable pub use Rattle.game_text.specs.Games.{game_in, game_of}
pub use Rattle.game_text.specs.Headers.{header_text}
unfoldable pub use Rattle.game_text.specs.Headers.{header_of, read_end_line}
pub use Rattle.game_text.specs.QuietGames.{quiet_client, quiet_flight}
unfoldable pub use Rattle.game_text.specs.QuietGames.{quiet_game}
pub use Rattle.bound_cert.specs.Reading.{forest_by, node_by}
unfoldable pub use Rattle.bound_cert.specs.Reading.{cert_of, root_in, tree_in}
pub use Rattle.bound_cert.specs.Texts.{cert_text, forest_lines, tree_lines}
pub use Rattle.bound_cert.specs.Trees.{IsCertificate, Tree, Trees, leaf, more, no_trees, split}
pub use Rattle.bound_cert.specs.declared.faults.CertFault.{CertFault}
pub use Rattle.log_text.specs.LoggedGames.{IsLogged, IsLoggedScore, LoggedGame, logged_text}
pub use Rattle.log_text.specs.SheetText.{cert_line, package_line}
pub use Rattle.log_reader.specs.EntryForms.{first_is}
unfoldable pub use Rattle.log_reader.specs.EntryForms.{auction_of, cash_entry_of, read_cash_line, read_entry, trade_of}
pub use Rattle.log_reader.specs.HeadForms.{end_of_words, formed, is_text, link_of_words}
unfoldable pub use Rattle.log_reader.specs.HeadForms.{read_end, read_link, read_missed}
pub use Rattle.log_reader.specs.LogReading.{begins, begins_in, block_by, cert_by, head_by, is_served, line_by, refused_line, served_in}
unfoldable pub use Rattle.log_reader.specs.LogReading.{as_long_as, cash_in, cert_in, entry_in, head_in, history_in, log_in, score_in}
unfoldable pub use Rattle.log_reader.specs.Logs.{log_of}
unfoldable pub use Rattle.log_reader.specs.SheetForms.{package_of, read_count, read_score}
